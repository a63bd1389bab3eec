-- `motion::shapes::middle_angle` is its definition, operation by operation. Assumes nothing.
use mathlib.Core.Path.{refl}
use Rattle.motion.proofs.shapes.middle_angle.Goals as goal

pub returns : goal.returns
returns c = refl
