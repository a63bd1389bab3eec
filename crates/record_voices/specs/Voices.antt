-- The voices of a scene record, 29 bytes each, in the words of request 104. Assumes nothing.
use Rattle.std.specs.Prelude.{Bool, true, false, cond, not, ◌&&◌, List, [], ◌∷◌, ℕ, zero, suc, ◌/◌, ◌%◌, ◌≤◌, eqb, Float, get_or, drop}
use Rattle.std.specs.Float.{nan}
use Rattle.lists.specs.Pieces.{pieces, pieces_of}
use Rattle.limits.specs.Lengths.{most_note, record_voice}
use Rattle.scene.specs.declared.MaskVoice.{MaskVoice}
use Rattle.scene.specs.declared.Pitch.{Pitch}
use Rattle.scene.specs.PitchNumbers.{hertz_form, form_of, note_of, number_of, pitch_of}
use Rattle.record_words.specs.Fields.{then}
use Rattle.record_words.specs.Floats.{floats_bytes, floats_of}

-- ---- written

-- "7 bits of note, 1 bit of pitch form (1 is hertz, the note bits zero ..)"
abbrev pub pitch_byte : Pitch → ℕ
pitch_byte pitch = then (note_of pitch) 1 (form_of pitch)

-- a note that its seven bits can hold; a voice by hertz has note 0
abbrev pub NoteFits : MaskVoice → Type 0
NoteFits voice = note_of voice.pitch ≤ most_note

-- "then level, tuning, pressure, timbre, volume, expression and pan", "the tuning float holding the
-- hertz" of a voice by hertz
abbrev pub voice_floats : MaskVoice → List Float
voice_floats voice =
    voice.level
    ∷ number_of voice.pitch
    ∷ voice.pressure
    ∷ voice.timbre
    ∷ voice.volume_gain
    ∷ voice.expression_gain
    ∷ voice.pan
    ∷ []

unfoldable pub voice_bytes : MaskVoice → List ℕ
voice_bytes voice = pitch_byte voice.pitch ∷ floats_bytes (voice_floats voice)

-- the bytes of voices that follow one another
abbrev pub voices_bytes : List MaskVoice → List ℕ
voices_bytes voices = pieces voice_bytes voices

-- ---- read

-- the pitch of a voice's first byte and its tuning float
abbrev pub pitch_in : ℕ → Float → Pitch
pitch_in byte number = pitch_of (byte % 2) (byte / 2) number

abbrev pub voice_with : ℕ → List Float → MaskVoice
voice_with byte floats =
    record {
      pitch = pitch_in byte (get_or floats 1 nan);
      level = get_or floats 0 nan;
      pressure = get_or floats 2 nan;
      timbre = get_or floats 3 nan;
      volume_gain = get_or floats 4 nan;
      expression_gain = get_or floats 5 nan;
      pan = get_or floats 6 nan;
    }

-- the voice at the start of some bytes
unfoldable pub voice_of : List ℕ → MaskVoice
voice_of bytes = voice_with (get_or bytes 0 0) (floats_of (drop 1 bytes) 7)

-- the n voices that follow one another there
abbrev pub voices_of : List ℕ → ℕ → List MaskVoice
voices_of bytes n = pieces_of voice_of record_voice bytes n

-- a first byte without a forbidden bit: by hertz the bits of the note are zero
abbrev pub pitch_allowed : ℕ → Bool
pitch_allowed byte = not (eqb (byte % 2) hertz_form && not (eqb (byte / 2) 0))

-- whether none of the n voices has a forbidden bit
unfoldable pub pitches_allowed : List ℕ → ℕ → Bool
pitches_allowed bytes zero = true
pitches_allowed bytes (suc n) =
    cond (pitch_allowed (get_or bytes 0 0)) (pitches_allowed (drop record_voice bytes) n) false
