-- A pitch in plain numbers: its form, its note and one more number, the semitones or the hertz.
-- Assumes nothing.
use Rattle.std.specs.Prelude.{cond, ℕ, eqb, Float}
use Rattle.float32.specs.Remainder.{zero}
use Rattle.scene.specs.declared.Pitch.{Pitch}
use Rattle.scene.specs.declared.Pitch.TheVariants.{Note, Hertz}

abbrev pub note_form : ℕ
note_form = 0

abbrev pub hertz_form : ℕ
hertz_form = 1

unfoldable pub form_of : Pitch → ℕ
form_of (Note note semitones) = note_form
form_of (Hertz hertz) = hertz_form

-- a pitch in hertz has no note: 0 stands in its place
unfoldable pub note_of : Pitch → ℕ
note_of (Note note semitones) = note
note_of (Hertz hertz) = 0

unfoldable pub number_of : Pitch → Float
number_of (Note note semitones) = semitones
number_of (Hertz hertz) = hertz

-- the pitch of three numbers; a form that is none of the two gives 0 Hz, outside the limits
unfoldable pub pitch_of : ℕ → ℕ → Float → Pitch
pitch_of form note number =
    cond (eqb form note_form) (Note note number)
    (cond (eqb form hertz_form) (Hertz number)
    (Hertz zero))
