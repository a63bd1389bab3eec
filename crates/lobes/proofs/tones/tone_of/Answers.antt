-- `lobes::tones::tone_of` meets its contract, field by field. Assumes nothing.
use Rattle.lobes.specs.Tone.{tone_of}
use Rattle.lobes.proofs.tones.tone_of.Goals as goal

pub returns : goal.returns
unfolding tone_of
returns c = simp (c.timbre_rolloff-rolloff.ensures, c.note_level-level.ensures, c.fundamental_of-fundamental.ensures)
