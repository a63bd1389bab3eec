-- `ripples` is its three stages, one after the other. Assumes nothing.
use mathlib.Core.Path.{◌∙◌}
use Rattle.lists.specs.Stages.{stages}
use Rattle.motion.specs.Shapes.{ripple}
use Rattle.motion_rows.proofs.shapes.ripples.Goals as goal

pub returns : goal.returns
unfolding ripple
returns c =
    let e = rw (c.cos_row.ensures, c.angles.ensures) at c.crests.ensures in
    e ∙ stages _ _ 0 _ _ ∙ stages _ _ 0 _ _
