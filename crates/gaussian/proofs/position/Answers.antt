-- `gaussian::position` meets its contract: its steps are the definition's. Assumes nothing.
use mathlib.Core.Path.{ap}
use lib.Ieee.{Float, binary32, mul}
use Rattle.gaussian.specs.Bell.{steps_per_square, position}
use Rattle.gaussian.proofs.position.Goals as goal

pub returns : goal.returns
unfolding position
returns c = ap (λ (x : Float). mul binary32 x steps_per_square) c.clamp.ensures
