-- `lobes::tones::pitch_hertz` meets its contract, form by form: the note's frequency at its tuning,
-- or the hertz as they are. Assumes nothing.
use mathlib.Core.Path.{refl}
use Rattle.lobes.specs.Tone.{pitch_hertz}
use Rattle.lobes.proofs.tones.pitch_hertz.Goals as goal

pub returns-in-Note : goal.returns-in-Note
unfolding pitch_hertz
returns-in-Note c = rw c.in-Note.is c.note_hertz.ensures

pub returns-in-Hertz : goal.returns-in-Hertz
unfolding pitch_hertz
returns-in-Hertz c = rw c.in-Hertz.is refl
