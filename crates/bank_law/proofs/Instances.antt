-- The premises of the promise can be met: a chord played from the bottom up, and the same chord
-- from the top down with a note that goes again, a voice twice and a refused call. However the two
-- banks are then read, on whatever curve, they sound the same. Assumes nothing.
use mathlib.Core.Path.{◌≡◌, refl}
use mathlib.Core.List.{List, [], ◌∷◌}
use Prim.Native.Nat.{zero, suc}
use native.Mathlib.Omega.{arith}
use lib.Dec.{lit<}
use lib.Count.{count_trailing_zeros}
use lib.Ieee.{eq, lt, le, of_bits, of_fields, odd, fits}
use Rattle.float32.specs.Order.{finite, within}
use Rattle.float32.specs.Remainder as remainder
use Rattle.float32.specs.Remainder.{half}
use Rattle.scene.specs.declared.Pitch.{Pitch}
use Rattle.scene.specs.Accepted.{voice_accepted, pitch_accepted}
use Rattle.scene.specs.F32.{F32Pitch, F32Voice}
use Rattle.voice_bank.specs.Banks.{empty}
use Rattle.chord_law.specs.Voices.{SamePitch}
use Rattle.chord_law.specs.SameVoices.{SameVoice}
use Rattle.chord_law.proofs.Instances.{voice, C, E, G, same-placed, placed-f32}
use Rattle.bank_law.specs.Calls.{Reading, Call, add, remove, read}
use Rattle.bank_law.specs.Present.{has, taken_out, reply_by, present_from, present}
use Rattle.bank_law.specs.Banks.{answer_of, run}
use Rattle.bank_law.specs.Promises.{AllAmong, SameVoices}
use Rattle.bank_law.specs.Promises.{OneReading, SameSound, F32Reading}
use Rattle.bank_law.proofs.Audible.{order-not-audible}

abbrev pub bottom_up : List Call
bottom_up = add 0 C ∷ add 1 E ∷ []

-- the last is refused, since the id is taken
abbrev pub top_down : List Call
top_down = add 7 E ∷ add 3 G ∷ add 5 C ∷ remove 3 ∷ add 9 C ∷ add 5 G ∷ []

pub bottom-up-present : present bottom_up ≡ C ∷ E ∷ []
unfolding present_from reply_by has taken_out voice_accepted pitch_accepted finite within of_bits of_fields
    odd count_trailing_zeros eq lt le
bottom-up-present = refl

pub top-down-present : present top_down ≡ E ∷ C ∷ C ∷ []
unfolding present_from reply_by has taken_out voice_accepted pitch_accepted finite within of_bits of_fields
    odd count_trailing_zeros eq lt le
top-down-present = refl

-- ---- a voice of this kind is the same as itself, and its numbers are f32s
itself : (pitch : Pitch) → SamePitch pitch pitch → SameVoice (voice pitch half) (voice pitch half)
unfolding of_bits eq
itself pitch same = same-placed pitch pitch same remainder.zero remainder.zero tt

voice-f32 : (pitch : Pitch) → F32Pitch pitch → F32Voice (voice pitch half)
unfolding of_bits fits
voice-f32 pitch f = placed-f32 pitch remainder.zero f tt

C-itself : SameVoice C C
unfolding of_bits of_fields odd count_trailing_zeros eq
C-itself = itself C.pitch (record { note = refl; tuning = tt })

E-itself : SameVoice E E
unfolding of_bits of_fields odd count_trailing_zeros eq
E-itself = itself E.pitch tt

there : AllAmong (C ∷ E ∷ []) (E ∷ C ∷ C ∷ [])
there zero l = record { place = 1; there = lit< tt; same = C-itself }
there (suc zero) l = record { place = 0; there = lit< tt; same = E-itself }
there (suc (suc i)) l = absurd (omega arith)

back : AllAmong (E ∷ C ∷ C ∷ []) (C ∷ E ∷ [])
back zero l = record { place = 1; there = lit< tt; same = E-itself }
back (suc zero) l = record { place = 0; there = lit< tt; same = C-itself }
back (suc (suc zero)) l = record { place = 0; there = lit< tt; same = C-itself }
back (suc (suc (suc i))) l = absurd (omega arith)

pub same-voices : SameVoices (present bottom_up) (present top_down)
same-voices = rw (bottom-up-present, top-down-present) (there, back)

-- ---- the promise at the two lists
C-f32 : F32Voice C
unfolding of_bits of_fields odd count_trailing_zeros fits
C-f32 = voice-f32 C.pitch tt

E-f32 : F32Voice E
unfolding of_bits of_fields odd count_trailing_zeros fits
E-f32 = voice-f32 E.pitch tt

G-f32 : F32Voice G
unfolding of_bits of_fields odd count_trailing_zeros fits
G-f32 = voice-f32 G.pitch tt

pub both-ways-sound-the-same :
    (a b : Reading) → F32Reading a → OneReading a b
    → SameSound (answer_of (run empty bottom_up) (read a)) (answer_of (run empty top_down) (read b))
both-ways-sound-the-same a b f one =
    order-not-audible bottom_up top_down (C-f32, (E-f32, tt))
    (E-f32, (G-f32, (C-f32, (tt, (C-f32, (G-f32, tt)))))) a b f same-voices one
