-- A voice's bytes, there and back: a voice comes back to the bit, and bytes without a forbidden bit
-- and with no NaN are those that their voice is written as. The same of voices that follow one
-- another. Assumes nothing.
use mathlib.Core.Path.{◌≡◌, refl, sym, ap, subst}
use mathlib.Core.Bool.{Bool, true, false, cond, not, ◌&&◌}
use mathlib.Core.List.{List, [], ◌∷◌, ◌++◌, append_assoc}
use Prim.Native.Nat.{ℕ, zero, suc, ◌+◌, ◌*◌, ◌/◌, ◌%◌, ◌≤◌, ◌<◌}
use native.Mathlib.Nat.{div-add-mod', mod-lt}
use native.Mathlib.Omega.{arith}
use lib.Arith.{digits_div, digits_mod}
use lib.Dec.{T, eqb}
use lib.Ieee.{Float, nan}
use lib.Ieee.Bits.{is_true}
use lib.ListN.{length, get_or, take, drop, length-drop}
use lib.Seq.{take-add, drop_at}
use borrow.Author.Tests.{ne_eqb}
use Rattle.lists.specs.Totals.{All, all_drop}
use Rattle.lists.specs.Bytes.{Byte}
use Rattle.lists.specs.Pieces.{pieces, pieces_of, pieces-length, pieces-counted, pieces-back}
use Rattle.scene.specs.declared.MaskVoice.{MaskVoice}
use Rattle.scene.specs.declared.Pitch.{Pitch}
use Rattle.scene.specs.declared.Pitch.TheVariants.{Note, Hertz}
use Rattle.scene.specs.PitchNumbers.{hertz_form, form_of, note_of, number_of, pitch_of}
use Rattle.scene.proofs.Parts.{with_pitch}
use Rattle.scene.proofs.PitchNumbers.{Numbers, pitch-back, note-numbers, hertz-numbers}
use Rattle.record_words.specs.Floats.{floats_of}
use Rattle.record_words.proofs.FloatLists.{Fits, Number, floats-length, floats-back}
use Rattle.record_words.proofs.FloatLists.{bytes-of-floats}
use Rattle.record_voices.specs.Voices.{pitch_byte, voice_floats, voice_bytes}
use Rattle.record_voices.specs.Voices.{voices_bytes}
use Rattle.record_voices.specs.Voices.{pitch_in, voice_with, voice_of, voices_of, pitch_allowed}
use Rattle.record_voices.specs.Voices.{pitches_allowed}

-- ---- lengths and steps
pub voice-length : (voice : MaskVoice) → length (voice_bytes voice) ≡ 29
unfolding voice_bytes
voice-length voice = ap suc (floats-length (voice_floats voice))

pub voices-length : (voices : List MaskVoice) → length (voices_bytes voices) ≡ 29 * length voices
voices-length = pieces-length voice_bytes 29 voice-length

pub voices-counted : (bs : List ℕ) (n : ℕ) → length (voices_of bs n) ≡ n
voices-counted = pieces-counted voice_of 29

-- ---- a pitch by its byte
module _ (note form : ℕ) (h : form < 2) where
  form-of-byte : (note * 2 + form) % 2 ≡ form
  form-of-byte = digits_mod note h

  note-of-byte : (note * 2 + form) / 2 ≡ note
  note-of-byte = digits_div note h

pub form-below : (pitch : Pitch) → form_of pitch < 2
unfolding form_of
form-below (Note note semitones) = omega arith
form-below (Hertz hertz) = omega arith

pub pitch-read : (pitch : Pitch) → pitch_in (pitch_byte pitch) (number_of pitch) ≡ pitch
pitch-read pitch =
    let h = form-below pitch in
    rw (form-of-byte (note_of pitch) (form_of pitch) h, note-of-byte (note_of pitch) (form_of pitch) h)
    (pitch-back pitch)

pub pitch-passes : (pitch : Pitch) → T (pitch_allowed (pitch_byte pitch))
unfolding note_of form_of
pitch-passes (Note note semitones) = rw (form-of-byte note 0 (omega arith)) tt
pitch-passes (Hertz hertz) = tt

-- a byte without a forbidden bit is that of its pitch
numbers-there :
    (form note : ℕ) (number : Float) → form < 2
    → T (not (eqb form hertz_form && not (eqb note 0)))
    → Numbers (pitch_of form note number) form note number
numbers-there zero note number h t = note-numbers note number
numbers-there (suc zero) zero number h t = hertz-numbers number
numbers-there (suc zero) (suc note) number h t =
    absurd (rw (ne_eqb (suc note) 0 (λ e. omega arith)) at t)
numbers-there (suc (suc k)) note number h t = absurd (omega arith)

module _ (byte : ℕ) (number : Float) (allowed : T (pitch_allowed byte)) where
  numbers-in : Numbers (pitch_in byte number) (byte % 2) (byte / 2) number
  numbers-in = numbers-there (byte % 2) (byte / 2) number (mod-lt byte (omega arith)) allowed

  byte-back : pitch_byte (pitch_in byte number) ≡ byte
  byte-back = rw (numbers-in.note-back, numbers-in.form-back) (div-add-mod' byte 2)

  number-back : number_of (pitch_in byte number) ≡ number
  number-back = numbers-in.number-back

-- ---- there and back
voice-back :
    (v : MaskVoice) (rest : List ℕ) → All Fits (voice_floats v) → voice_of (voice_bytes v ++ rest) ≡ v
unfolding voice_bytes voice_of
voice-back v rest h =
    rw (floats-back (voice_floats v) rest h) (ap (with_pitch v) (pitch-read v.pitch))

pub voices-back :
    (vs : List MaskVoice) (rest : List ℕ) → All (λ v. All Fits (voice_floats v)) vs
    → voices_of (voices_bytes vs ++ rest) (length vs) ≡ vs
voices-back =
    pieces-back voice_bytes 29 voice-length voice_of (λ v. All Fits (voice_floats v)) voice-back

-- and no voice that is written has a forbidden bit
first_byte : (v : MaskVoice) (l : List ℕ) → get_or (voice_bytes v ++ l) 0 0 ≡ pitch_byte v.pitch
unfolding voice_bytes
first_byte v l = refl

pub voices-pass :
    (vs : List MaskVoice) (rest : List ℕ)
    → T (pitches_allowed (voices_bytes vs ++ rest) (length vs))
unfolding pitches_allowed pieces
voices-pass [] rest = tt
voices-pass (v ∷ vs) rest =
    let more = voices_bytes vs ++ rest in
    rw (
      append_assoc (voice_bytes v) (voices_bytes vs) rest,
      first_byte v more,
      is_true (pitch_allowed (pitch_byte v.pitch)) (pitch-passes v.pitch),
      drop_at (voice_bytes v) more 29 (voice-length v),
    )
    (voices-pass vs rest)

-- ---- back and there
-- the seven floats of a voice made of seven floats
seven :
    (byte : ℕ) (bs : List ℕ) → T (pitch_allowed byte)
    → voice_floats (voice_with byte (floats_of bs 7)) ≡ floats_of bs 7
unfolding pieces_of
seven byte bs allowed = rw (number-back byte (get_or (floats_of bs 7) 1 nan) allowed)

voice-there :
    (bs : List ℕ) → 29 ≤ length bs → All Byte bs → T (pitch_allowed (get_or bs 0 0))
    → All Number (floats_of (drop 1 bs) 7) → voice_bytes (voice_of bs) ≡ take 29 bs
unfolding voice_bytes voice_of
voice-there [] l h allowed numbers = absurd (omega arith)
voice-there (b ∷ bs) l h allowed numbers =
    rw (byte-back b (get_or (floats_of bs 7) 1 nan) allowed, seven b bs allowed)
    (ap (λ (r : List ℕ). b ∷ r) (bytes-of-floats 7 bs (omega arith) h.1 numbers))

-- no float of a voice is a NaN
abbrev pub VoiceNumbers : MaskVoice → Type 0
VoiceNumbers v = All Number (voice_floats v)

-- the floats of the voice at the start of some bytes are those of the bytes
numbers-in-bytes :
    (bs : List ℕ) → T (pitch_allowed (get_or bs 0 0)) → VoiceNumbers (voice_of bs)
    → All Number (floats_of (drop 1 bs) 7)
unfolding voice_of
numbers-in-bytes bs allowed numbers =
    subst (All Number) (seven (get_or bs 0 0) (drop 1 bs) allowed) numbers

pub voices-there :
    (n : ℕ) (bs : List ℕ) → 29 * n ≤ length bs → All Byte bs → T (pitches_allowed bs n)
    → All VoiceNumbers (voices_of bs n) → voices_bytes (voices_of bs n) ≡ take (29 * n) bs
unfolding pieces pieces_of pitches_allowed
voices-there zero bs l h t numbers = refl
voices-there (suc n) bs l h t numbers =
    go (pitch_allowed (get_or bs 0 0)) refl t
    (λ u. voices-there n (drop 29 bs) (rw (length-drop 29 bs) (omega arith))
    (all_drop Byte 29 bs h) u numbers.1)
  where
    go : (b : Bool) → pitch_allowed (get_or bs 0 0) ≡ b
        → T (cond b (pitches_allowed (drop 29 bs) n) false)
        → (T (pitches_allowed (drop 29 bs) n)
        → voices_bytes (voices_of (drop 29 bs) n) ≡ take (29 * n) (drop 29 bs))
        → voice_bytes (voice_of bs) ++ voices_bytes (voices_of (drop 29 bs) n) ≡ take (29 * suc n) bs
    go false e u later = absurd u
    go true e u later =
        let allowed = subst T (sym e) tt in
        let whole : 29 * suc n ≡ 29 + 29 * n = omega arith in
        rw (
          whole,
          take-add 29 (29 * n) bs,
          voice-there bs (omega arith) h allowed (numbers-in-bytes bs allowed numbers.0),
        )
        (ap (λ (r : List ℕ). take 29 bs ++ r) (later u))
