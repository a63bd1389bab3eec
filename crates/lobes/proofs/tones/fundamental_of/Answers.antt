-- `lobes::tones::fundamental_of` meets its contract: it is the frequency of the voice's pitch.
-- Assumes nothing.
use Rattle.lobes.specs.Tone.{fundamental_of}
use Rattle.lobes.proofs.tones.fundamental_of.Goals as goal

pub returns : goal.returns
unfolding fundamental_of
returns c = c.pitch_hertz.ensures
