-- `voice_floats` meets its contract. Assumes nothing.
use Rattle.record_voices.proofs.voice_floats.Goals as goal

pub returns : goal.returns
returns c = simp c.number_of.ensures
