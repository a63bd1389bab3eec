-- `windows` is its two stages, one after the other. Assumes nothing.
use mathlib.Core.Path.{◌∙◌}
use Rattle.lists.specs.Stages.{stages}
use Rattle.motion.specs.Shapes.{window}
use Rattle.motion_rows.proofs.shapes.windows.Goals as goal

pub returns : goal.returns
unfolding window
returns c =
    let e = rw c.window_exponents.ensures at c.exp_row.ensures in
    e ∙ stages _ _ 0 _ _
