-- `ceilings` is its stages, one after the other, with the moving field and without. Assumes
-- nothing.
use mathlib.Core.Path.{◌≡◌, ◌∙◌}
use Rattle.bin_gains.specs.Shared.{shared_of}
use Rattle.bin_gains.proofs.RowCeilings.{ceilings-at-rest, ceilings-moved}
use Rattle.bin_gains.proofs.ceilings.Goals as goal

pub returns-then-motion : goal.returns-then-motion
returns-then-motion c =
    let e : c.args.shared ≡ shared_of c.args.config = c.requires.1 in
    let moved = rw (c.manual_gains.ensures, e) at c.move_row.ensures in
    let left = rw e at c.motion_gains.ensures in
    moved ∙ ceilings-moved c.args.curve.now c.args.config c.args.start c.args.count c.args.row.now c.if-motion.true c.args.field.now c.requires.3 left

pub returns-else-motion : goal.returns-else-motion
returns-else-motion c =
    c.manual_gains.ensures ∙ ceilings-at-rest c.args.curve.now c.args.config c.args.start c.args.count c.args.row.now c.if-motion.false
