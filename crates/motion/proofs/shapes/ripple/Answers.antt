-- `motion::shapes::ripple` meets its contract: the definition with what `cos` and `clamp` ensure
-- put in. Assumes nothing.
use mathlib.Core.Path.{◌∙◌}
use Rattle.motion.specs.Shapes.{ripple}
use Rattle.motion.proofs.shapes.ripple.Goals as goal

pub returns : goal.returns
unfolding ripple
returns c = c.clamp.ensures ∙ simp c.cos-wave.ensures
