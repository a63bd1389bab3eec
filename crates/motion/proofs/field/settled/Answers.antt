-- `settled` meets its contract: the definition with what its callees ensure put in.
-- Assumes nothing.
use Rattle.motion.specs.Settled.{settled}
use Rattle.motion.proofs.field.settled.Goals as goal

pub returns : goal.returns
unfolding settled
returns c = simp (c.max-depth_db.ensures, c.max-size_octaves.ensures, c.rem_euclid_one-reduced.ensures)
