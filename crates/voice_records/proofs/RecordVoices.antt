-- The voices of a list of records: as many as there are records, each the voice of its record, so
-- that the array of all of them is the one that the records' count fills. A record whose form is
-- none of the two is a voice outside its limits. Assumes nothing.
use mathlib.Core.Path.{◌≡◌, refl, sym, ap, ◌∙◌}
use mathlib.Core.Bool.{false}
use mathlib.Core.List.{List, append-nil}
use Prim.Native.Nat.{ℕ, ◌≤◌}
use lib.ListN.{length, get_or, take, length-map, get_or-map}
use lib.Seq.{take-length}
use Rattle.scene.specs.declared.MaskVoice.{MaskVoice}
use Rattle.scene.specs.Accepted.{no_voice, voice_accepted}
use Rattle.scene.specs.PitchNumbers.{pitch_of}
use Rattle.scene.specs.Gathered.{held, gathered_to, gathered}
use Rattle.scene.proofs.Parts.{with_pitch}
use Rattle.scene.proofs.PitchNumbers.{other-form-refused, pitch-back}
use Rattle.voice_records.specs.declared.VoiceRecord.{VoiceRecord}
use Rattle.voice_records.specs.VoiceRecords.{voice_of, plain_voice, voices_of_record, no_record}

no-voice : no_voice ≡ voice_of no_record
unfolding voice_of pitch_of
no-voice = refl

pub other-form-outside :
    (given : VoiceRecord) → 2 ≤ given.pitch_form → voice_accepted (voice_of given) ≡ false
unfolding voice_accepted voice_of
other-form-outside given h =
    rw (other-form-refused given.pitch_form given.note given.semitones_or_hertz h) refl

module _ (records : List VoiceRecord) where
  pub length-voices : length (voices_of_record records) ≡ length records
  length-voices = length-map records voice_of

  pub voice-at :
      (i : ℕ) → get_or (voices_of_record records) i no_voice ≡ voice_of (get_or records i no_record)
  voice-at i =
      ap (λ (none : MaskVoice). get_or (voices_of_record records) i none) no-voice
      ∙ get_or-map voice_of records i no_record

  pub all-gathered :
      gathered_to (held (length records)) (voices_of_record records) ≡ gathered (voices_of_record records)
  all-gathered =
      ap (λ (n : ℕ). gathered_to (held n) (voices_of_record records)) (sym length-voices)

pub voice-back : (voice : MaskVoice) → voice_of (plain_voice voice) ≡ voice
unfolding voice_of plain_voice
voice-back voice = ap (with_pitch voice) (pitch-back voice.pitch)

-- all 128 places are filled
pub all-filled :
    (voices : List MaskVoice) → length voices ≡ 128 → gathered_to 128 voices ≡ voices
unfolding gathered_to
all-filled voices l =
    append-nil (take 128 voices)
    ∙ ap (λ (n : ℕ). take n voices) (sym l) ∙ take-length voices
