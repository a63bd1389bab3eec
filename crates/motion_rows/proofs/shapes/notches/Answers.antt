-- `notches` is its two stages, one after the other. Assumes nothing.
use mathlib.Core.Path.{◌∙◌}
use Rattle.lists.specs.Stages.{stages}
use Rattle.motion_rows.proofs.shapes.notches.Goals as goal

pub returns : goal.returns
returns c =
    let e = rw c.windows.ensures at c.complements.ensures in
    e ∙ stages _ _ 0 _ _
