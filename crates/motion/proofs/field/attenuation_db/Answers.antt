-- `motion::field::attenuation_db` meets its contract: the definition with what its callees ensure
-- put in. Assumes nothing.
use Rattle.motion.specs.Field.{attenuation}
use Rattle.motion.proofs.field.attenuation_db.Goals as goal

pub returns : goal.returns
unfolding attenuation
returns c = simp (c.openness.ensures, c.max-depth.ensures)
