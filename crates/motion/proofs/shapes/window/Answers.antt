-- `motion::shapes::window` meets its contract: the exponential of what `window_exponent` ensures.
-- Assumes nothing.
use mathlib.Core.Path.{◌∙◌}
use Rattle.motion.specs.Shapes.{window}
use Rattle.motion.proofs.shapes.window.Goals as goal

pub returns : goal.returns
unfolding window
returns c = c.exp.ensures ∙ simp c.window_exponent.ensures
