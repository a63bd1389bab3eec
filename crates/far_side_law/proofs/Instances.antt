-- The premises of both laws can be met, on any curve, with NaN or without. Two voices alone, and
-- the same two with others before and between them that stand hard right or past it, have one left
-- mask; with others hard left, one right mask; and where a zero has another sign, equal ones. The
-- two voices and one hard right are lists that can be joined. Assumes nothing.
use mathlib.Core.Path.{◌≡◌, refl, sym, ap, ◌∙◌}
use mathlib.Core.List.{List, [], ◌∷◌}
use Prim.Native.Nat.{◌≤◌}
use lib.Dec.{T, lit≤}
use lib.Count.{count_trailing_zeros}
use lib.ListN.{length}
use lib.Seq.{take-length}
use lib.Ieee.{Float, binary32, fits, le, lt, eq, odd, of_bits, of_fields}
use Rattle.lists.specs.Pairs.{All2, none, more}
use Rattle.lists.specs.Totals.{All}
use Rattle.float32.specs.Order.{within, finite}
use Rattle.float32.specs.Remainder as remainder
use Rattle.float32.specs.Remainder.{half}
use Rattle.limits.specs.Lengths.{manual_mask_points, most_voices}
use Rattle.scene.specs.declared.MaskVoice.{MaskVoice}
use Rattle.scene.specs.declared.Pitch.{Pitch}
use Rattle.scene.specs.declared.Pitch.TheVariants.{Note, Hertz}
use Rattle.scene.specs.Accepted.{pitch_accepted, voice_accepted}
use Rattle.scene.specs.F32.{F32Voice, F32List}
use Rattle.lobes.specs.Pan.{Side, left, right, hard_left, hard_right}
use Rattle.chord_law.specs.Calls.{Call, F32Call, Accepted, whole, mask_on}
use Rattle.chord_law.specs.SameVoices.{SameVoice}
use Rattle.chord_law.specs.Masks.{EqualMasks}
use Rattle.chord_law.proofs.AcceptedVoices.{accepted-on}
use Rattle.chord_law.proofs.CurvePoints.{level-curve}
use Rattle.chord_law.proofs.Instances.{placed, chord, same-placed, placed-f32}
use Rattle.chord_law.proofs.Scene.{settings-same, entries-same, call, chord-accepted, call-f32}
use Rattle.far_side_law.specs.Sides.{near}
use Rattle.far_side_law.specs.FarSide.{SameScene, EqualScene, FarSideSilent}
use Rattle.far_side_law.specs.Joined.{Joinable, GreaterOfTwo}
use Rattle.far_side_law.proofs.Law.{far-side-law}
use Rattle.far_side_law.proofs.Joined.{joined-law}

-- ---- the voices
abbrev panned : Pitch → Float → MaskVoice
panned pitch pan = placed pitch half pan

abbrev note : Float → Float → MaskVoice
note tuning pan = panned (Note 60 tuning) pan

-- 330 Hz, half right
abbrev half_right : MaskVoice
half_right = panned (Hertz (of_bits binary32 0x43a5_0000)) half

abbrev minus_zero : Float
minus_zero = of_bits binary32 0x8000_0000

abbrev pub alone : List MaskVoice
alone = note remainder.zero remainder.zero ∷ half_right ∷ []

-- the same two, with another sign of each zero
abbrev other_zeros : List MaskVoice
other_zeros = note minus_zero minus_zero ∷ half_right ∷ []

-- with others before and between them: at an end of the pan, and past it
abbrev strewn : Float → Float → List MaskVoice → List MaskVoice
strewn end past [] = []
strewn end past (voice ∷ voices) =
    panned (Note 67 remainder.zero) end ∷ voice ∷ panned (Note 69 remainder.zero) past ∷ voices

-- 1 and 1.5
abbrev pub with_hard_right : List MaskVoice → List MaskVoice
with_hard_right = strewn hard_right (of_bits binary32 0x3fc0_0000)

-- -1 and -1.5
abbrev pub with_hard_left : List MaskVoice → List MaskVoice
with_hard_left = strewn hard_left (of_bits binary32 0xbfc0_0000)

abbrev pub one_hard_right : List MaskVoice
one_hard_right = panned (Note 67 remainder.zero) hard_right ∷ []

near-the-left : near left alone ≡ near left (with_hard_right alone)
unfolding near of_bits of_fields odd count_trailing_zeros le lt eq
near-the-left = refl

near-the-right : near right alone ≡ near right (with_hard_left alone)
unfolding near of_bits of_fields odd count_trailing_zeros le lt eq
near-the-right = refl

-- ---- the lists are accepted, and their numbers are f32s
record Sound (voices : List MaskVoice) : Type 0 where
  few : length voices ≤ most_voices
  within-limits : All (λ v. T (voice_accepted v)) voices
  numbers : All F32Voice voices

alone-sound : Sound alone
unfolding voice_accepted pitch_accepted within finite le lt eq of_bits of_fields odd count_trailing_zeros fits
alone-sound =
    record {
      few = lit≤ tt;
      within-limits = (tt, (tt, tt));
      numbers = (placed-f32 _ _ tt tt, (placed-f32 _ _ tt tt, tt));
    }

one-sound : Sound one_hard_right
unfolding voice_accepted pitch_accepted within finite le lt eq of_bits of_fields odd count_trailing_zeros fits
one-sound =
    record {
      few = lit≤ tt;
      within-limits = (tt, tt);
      numbers = (placed-f32 _ _ tt tt, tt);
    }

-- the two voices with others strewn among them
strewn-sound :
    (end past tuning pan : Float)
    → All (λ v. T (voice_accepted v)) (strewn end past (note tuning pan ∷ half_right ∷ []))
    → T (fits binary32 end) → T (fits binary32 past) → T (fits binary32 tuning)
    → T (fits binary32 pan) → Sound (strewn end past (note tuning pan ∷ half_right ∷ []))
unfolding of_bits of_fields odd count_trailing_zeros fits
strewn-sound end past tuning pan within-limits p q r s =
    record {
      few = lit≤ tt;
      within-limits = within-limits;
      numbers = (
        placed-f32 _ end tt p,
        (placed-f32 _ pan r s, (placed-f32 _ past tt q, (placed-f32 _ half tt tt, tt))),
      );
    }

right-sound : Sound (with_hard_right alone)
unfolding voice_accepted pitch_accepted within finite le lt eq of_bits of_fields odd count_trailing_zeros fits
right-sound = strewn-sound _ _ _ _ (tt, (tt, (tt, (tt, tt)))) tt tt tt tt

left-sound : Sound (with_hard_left alone)
unfolding voice_accepted pitch_accepted within finite le lt eq of_bits of_fields odd count_trailing_zeros fits
left-sound = strewn-sound _ _ _ _ (tt, (tt, (tt, (tt, tt)))) tt tt tt tt

zeros-sound : Sound (with_hard_right other_zeros)
unfolding voice_accepted pitch_accepted within finite le lt eq of_bits of_fields odd count_trailing_zeros fits
zeros-sound = strewn-sound _ _ _ _ (tt, (tt, (tt, (tt, tt)))) tt tt tt tt

zeros_equal : All2 SameVoice alone other_zeros
unfolding of_bits of_fields odd count_trailing_zeros eq
zeros_equal =
    more
    (same-placed (Note 60 remainder.zero) (Note 60 minus_zero)
    (record { note = refl; tuning = tt }) remainder.zero minus_zero tt)
    (more (same-placed half_right.pitch half_right.pitch tt half half tt) none)

-- ---- the scenes, on any curve
module _ (curve : List Float) (long : length curve ≡ manual_mask_points) (f32 : F32List curve) where
  abbrev scene : List MaskVoice → Call
  scene = call curve

  accepted : (voices : List MaskVoice) → Sound voices → Accepted (whole (scene voices))
  accepted voices s =
      accepted-on (scene chord) (chord-accepted curve long f32) voices s.few
      s.within-limits

  numbers-f32 : (voices : List MaskVoice) → Sound voices → F32Call (scene voices)
  numbers-f32 voices s = call-f32 curve long f32 voices s.numbers

  law :
      (xs ys : List MaskVoice) → Sound xs → Sound ys
      → FarSideSilent (whole (scene xs)) (whole (scene ys))
  law xs ys s t = far-side-law (scene xs) (scene ys) (numbers-f32 xs s) (numbers-f32 ys t)

  same-scene :
      (side : Side) (xs ys : List MaskVoice) → Sound xs → Sound ys → near side xs ≡ near side ys
      → SameScene side (whole (scene xs)) (whole (scene ys))
  same-scene side xs ys s t e =
      record {
        a-accepted = accepted xs s;
        b-accepted = accepted ys t;
        curve = refl;
        table = refl;
        settings = refl;
        voices =
            ap (near side) (take-length xs) ∙ e ∙ sym (ap (near side) (take-length ys));
      }

  near-with-other-zeros :
      EqualScene left (whole (scene alone)) (whole (scene (with_hard_right other_zeros)))
  unfolding near of_bits of_fields odd count_trailing_zeros le lt eq
  near-with-other-zeros =
      record {
        a-accepted = accepted alone alone-sound;
        b-accepted = accepted (with_hard_right other_zeros) zeros-sound;
        curve = (level-curve curve long f32, level-curve curve long f32);
        table = entries-same;
        settings = settings-same;
        voices = zeros_equal;
      }

  -- ---- the laws at these
  pub hard-right-leaves-the-left :
      mask_on left (scene alone) ≡ mask_on left (scene (with_hard_right alone))
  hard-right-leaves-the-left =
      (law alone (with_hard_right alone) alone-sound right-sound).left-same
      (same-scene left alone (with_hard_right alone) alone-sound right-sound near-the-left)

  pub hard-left-leaves-the-right :
      mask_on right (scene alone) ≡ mask_on right (scene (with_hard_left alone))
  hard-left-leaves-the-right =
      (law alone (with_hard_left alone) alone-sound left-sound).right-same
      (same-scene right alone (with_hard_left alone) alone-sound left-sound near-the-right)

  pub signs-of-zeros-do-not-count :
      EqualMasks (mask_on left (scene alone)) (mask_on left (scene (with_hard_right other_zeros)))
  signs-of-zeros-do-not-count =
      (law alone (with_hard_right other_zeros) alone-sound zeros-sound).left-equal
      near-with-other-zeros

  joinable : Joinable (scene alone) (scene one_hard_right)
  joinable =
      record {
        a-accepted = accepted alone alone-sound;
        b-accepted = accepted one_hard_right one-sound;
        table = refl;
        settings = refl;
        together = lit≤ tt;
      }

  pub a-voice-more : GreaterOfTwo (scene alone) (scene one_hard_right)
  a-voice-more =
      joined-law (scene alone) (scene one_hard_right) (numbers-f32 alone alone-sound)
      (numbers-f32 one_hard_right one-sound) joinable
