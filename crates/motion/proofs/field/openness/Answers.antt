-- `motion::field::openness` meets its contract: each test is one of the two resting states. Assumes
-- nothing.
use mathlib.Core.Path.{◌∙◌}
use Rattle.motion.specs.Field.{openness}
use Rattle.motion.proofs.field.openness.Goals as goal

pub returns-then-config : goal.returns-then-config
unfolding openness
returns-then-config c = simp c.if-config.true

pub returns-then-frequency : goal.returns-then-frequency
unfolding openness
returns-then-frequency c = simp (c.if-config.false, c.if-frequency.true)

pub returns : goal.returns
unfolding openness
returns c = simp (c.if-config.false, c.if-frequency.false) (c.shape_at.ensures ∙ simp (c.rem_euclid_one-phase.ensures, c.max-size.ensures, c.log2-x.ensures))
