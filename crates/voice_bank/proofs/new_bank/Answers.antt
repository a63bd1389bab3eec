-- `new_bank` meets its contract: the record of a silent voice has 0 in every field. Assumes
-- nothing.
use mathlib.Core.Path.{refl}
use Rattle.scene.specs.PitchNumbers.{form_of, note_of, number_of}
use Rattle.voice_records.specs.VoiceRecords.{plain_voice}
use Rattle.voice_bank.proofs.new_bank.Goals as goal

pub returns : goal.returns
unfolding plain_voice form_of note_of number_of
returns c = refl
