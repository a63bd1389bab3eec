-- `motion::shapes::harmonic` meets its contract: the fifth power of what `ripple` ensures. Assumes
-- nothing.
use mathlib.Core.Path.{◌∙◌}
use Rattle.motion.specs.Shapes.{harmonic}
use Rattle.motion.proofs.shapes.harmonic.Goals as goal

pub returns : goal.returns
unfolding harmonic
returns c = c.powi5.ensures ∙ simp c.ripple.ensures
