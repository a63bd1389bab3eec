-- `harmonics` is its two stages, one after the other. Assumes nothing.
use mathlib.Core.Path.{◌∙◌}
use Rattle.lists.specs.Stages.{stages}
use Rattle.motion.specs.Shapes.{harmonic}
use Rattle.motion_rows.proofs.shapes.harmonics.Goals as goal

pub returns : goal.returns
unfolding harmonic
returns c =
    let e = rw c.ripples.ensures at c.fifth_powers.ensures in
    e ∙ stages _ _ 0 _ _
