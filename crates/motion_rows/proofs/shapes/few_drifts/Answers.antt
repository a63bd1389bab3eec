-- `few_drifts` is the angles, their sines, and the sum of the layers. Assumes nothing.
use Prim.Native.Nat.{◌+◌}
use lib.ListN.{get_or}
use lib.Ieee.{nan}
use Rattle.motion.specs.Shapes.{broad_angle, middle_angle, detail_angle}
use Rattle.motion_rows.proofs.Layered.{wave-at, joined}
use borrow.Author.Rules.{rules}
use Rattle.motion_rows.proofs.shapes.few_drifts.Goals as goal

pub layers-requires : goal.layers-requires
layers-requires c =
    let size = c.args.size in
    let phase = c.args.phase in
    let start = c.args.start in
    let count = c.args.count in
    let xs = c.args.row.now in (
      c.requires.0,
      search rules,
      search rules,
      search rules,
      λ k h.
          joined (get_or xs (start + k) nan) size phase _ _ _
          (wave-at (λ x. broad_angle x size phase) start count xs c.args.broad.now c.requires.1 c.layer_angles.ensures.0 c.sin_row.ensures k h)
          (wave-at (λ x. middle_angle x size phase) start count xs c.args.middle.now c.requires.2 c.layer_angles.ensures.1 c.sin_row-2.ensures k h)
          (wave-at (λ x. detail_angle x size phase) start count xs c.args.detail.now c.requires.3 c.layer_angles.ensures.2 c.sin_row-3.ensures k h),
    )
