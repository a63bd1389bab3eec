-- `motion::shapes::window_exponent` meets its contract: each step is what its callee ensures.
-- Assumes nothing.
use Rattle.motion.specs.Shapes.{wrapped}
use Rattle.motion.proofs.shapes.window_exponent.Goals as goal

pub returns : goal.returns
unfolding wrapped
returns c = simp (c.powi2.ensures, c.min-wrapped.ensures, c.abs-distance.ensures)
