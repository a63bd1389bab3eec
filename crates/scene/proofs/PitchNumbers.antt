-- A pitch and its three numbers, both ways: the pitch comes back to the bit from its form, note and
-- number, and so do three numbers of a known form. A form that is none of the two is not accepted.
-- Assumes nothing.
use mathlib.Core.Path.{◌≡◌, refl}
use mathlib.Core.Bool.{false}
use Prim.Native.Nat.{ℕ, ◌≤◌}
use native.Mathlib.Omega.{arith}
use borrow.Author.Tests.{ne_eqb}
use lib.Count.{count_trailing_zeros}
use lib.Ieee.{Float, of_bits, of_fields, odd, le}
use Rattle.float32.specs.Order.{within}
use Rattle.scene.specs.declared.Pitch.{Pitch}
use Rattle.scene.specs.declared.Pitch.TheVariants.{Note, Hertz}
use Rattle.scene.specs.Accepted.{pitch_accepted}
use Rattle.scene.specs.PitchNumbers.{note_form, hertz_form, form_of, note_of, number_of, pitch_of}

pub pitch-back : (pitch : Pitch) → pitch_of (form_of pitch) (note_of pitch) (number_of pitch) ≡ pitch
unfolding pitch_of form_of note_of number_of
pitch-back (Note note semitones) = refl
pitch-back (Hertz hertz) = refl

-- three numbers that are those of a pitch
pub record Numbers (pitch : Pitch) (form note : ℕ) (number : Float) : Type 0 where
  pub form-back : form_of pitch ≡ form
  pub note-back : note_of pitch ≡ note
  pub number-back : number_of pitch ≡ number

pub note-numbers :
    (note : ℕ) (number : Float) → Numbers (pitch_of note_form note number) note_form note number
unfolding pitch_of form_of note_of number_of
note-numbers note number = record { form-back = refl; note-back = refl; number-back = refl }

pub hertz-numbers : (number : Float) → Numbers (pitch_of hertz_form 0 number) hertz_form 0 number
unfolding pitch_of form_of note_of number_of
hertz-numbers number = record { form-back = refl; note-back = refl; number-back = refl }

pub other-form-refused :
    (form note : ℕ) (number : Float) → 2 ≤ form → pitch_accepted (pitch_of form note number) ≡ false
unfolding pitch_of pitch_accepted within le of_bits of_fields odd count_trailing_zeros
other-form-refused form note number h =
    rw (ne_eqb form note_form (omega arith), ne_eqb form hertz_form (omega arith)) refl
