-- `layers` replaces `count` places from `start` on: each entry below i is the drift, the sum of its
-- layers. Assumes nothing.
use mathlib.Core.Path.{◌≡◌, ap, ◌∙◌}
use mathlib.Core.Logic.{inl}
use Prim.Native.Nat.{ℕ, ◌+◌, ◌-◌}
use native.Mathlib.Omega.{arith}
use lib.ListN.{get_or}
use lib.Ieee.{nan}
use Rattle.lists.specs.Turned.{turned_none, turned_more, turned-to}
use Rattle.motion.specs.Shapes.{drift}
use Rattle.motion_rows.proofs.shapes.layers.Goals as goal

pub loop-i-init : goal.loop-i-init
loop-i-init c = (turned_none _ _ _, omega arith)

pub loop-i-preserved : goal.loop-i-preserved
loop-i-preserved c =
    let low = c.loop-i.invariant.0.low in
    let k = c.loop-i.i - c.args.start in
    let z : c.args.start + k ≡ c.loop-i.i = omega arith in (
      turned_more nan c.loop-i.invariant.0 (omega arith) (c.layered.ensures ∙ c.requires.4 k (omega arith) ∙ ap (λ (n : ℕ). drift (get_or c.args.row.now n nan) c.args.size c.args.phase) z),
      omega arith,
    )

pub shape_of-row : goal.shape_of-row
shape_of-row c = c.loop-i.invariant.0.len

pub returns : goal.returns
returns c = turned-to _ c.loop-i.invariant.0 (inl c.loop-i.invariant.1) (omega arith)
