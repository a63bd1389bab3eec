-- The premise on voices can be met: a chord of notes and hertz is matched in itself with one voice
-- more, in itself reversed, and in itself with one level raised. The law then says, for every
-- curve, table and settings that are accepted with the two lists: a voice more or a level raised
-- lowers no bin, and the order of the voices does not count. A note and the hertz that it sounds
-- are not equal in pitch, so the law claims nothing of them. Assumes nothing.
use mathlib.Core.Path.{◌≡◌, refl, sym, subst}
use mathlib.Core.Bool.{not}
use mathlib.Core.List.{List, [], ◌∷◌}
use Prim.Native.Nat.{ℕ, zero, suc}
use native.Mathlib.Omega.{arith}
use lib.Dec.{T, lit<}
use lib.ListN.{get_or}
use lib.Count.{count_trailing_zeros}
use lib.Ieee.{Float, binary32, of_bits, of_fields, of_int, odd, eq, lt, is_nan, add, sub, sum, neg, mul}
use lib.Ieee.{div, round, size, span, climb, units, fits}
use Rattle.scene.specs.declared.MaskVoice.{MaskVoice}
use Rattle.scene.specs.declared.Pitch.{Pitch}
use Rattle.scene.specs.declared.Pitch.TheVariants.{Note, Hertz}
use Rattle.scene.specs.Accepted.{no_voice}
use Rattle.scene.specs.F32.{F32Pitch, F32Voice}
use Rattle.lists.specs.Interpolation.{interp}
use Rattle.float32.specs.Remainder as remainder
use Rattle.float32.specs.Remainder.{half}
use Rattle.float32.specs.Value.{moved}
use Rattle.power.specs.Table.{power_table}
use Rattle.power.specs.Power.{power_at, power_of, E2}
use Rattle.lobes.specs.Tone.{pitch_hertz, fundamental_of}
use Rattle.chord_law.specs.Calls.{Call, F32Call, given, whole}
use Rattle.chord_law.specs.Voices.{SamePitch, Matched, MatchIn, MatchedIn}
use Rattle.chord_law.specs.SameVoices.{SameVoice}
use Rattle.chord_law.specs.Curves.{NowhereAbove}
use Rattle.chord_law.specs.Masks.{MasksNotAbove, MasksEqual}
use Rattle.chord_law.specs.Premises.{Comparable, Beneath}
use Rattle.chord_law.proofs.Law.{masks-not-above, masks-equal}

-- a pitch at a level, with full pressure and volume, at a place between left and right
abbrev pub placed : Pitch → Float → Float → MaskVoice
placed pitch level pan =
    record {
      pitch = pitch;
      level = level;
      pressure = remainder.one;
      timbre = half;
      volume_gain = remainder.one;
      expression_gain = remainder.one;
      pan = pan;
    }

-- at the centre
abbrev pub voice : Pitch → Float → MaskVoice
voice pitch level = placed pitch level remainder.zero

abbrev in_tune : ℕ → Pitch
in_tune note = Note note remainder.zero

abbrev hertz_330 : Float
hertz_330 = of_bits binary32 0x43a5_0000

abbrev hertz_440 : Float
hertz_440 = of_bits binary32 0x43dc_0000

abbrev pub C : MaskVoice
C = voice (in_tune 60) half

abbrev pub E : MaskVoice
E = voice (Hertz hertz_330) half

abbrev pub G : MaskVoice
G = voice (in_tune 67) half

abbrev pub louder_g : MaskVoice
louder_g = voice (in_tune 67) remainder.one

abbrev pub A : MaskVoice
A = voice (in_tune 69) half

abbrev pub a_by_hertz : MaskVoice
a_by_hertz = voice (Hertz hertz_440) half

abbrev pub chord : List MaskVoice
chord = C ∷ E ∷ G ∷ []

abbrev pub with_one_more : List MaskVoice
with_one_more = C ∷ E ∷ a_by_hertz ∷ G ∷ []

abbrev pub reversed : List MaskVoice
reversed = G ∷ E ∷ C ∷ []

abbrev pub with_g_raised : List MaskVoice
with_g_raised = C ∷ E ∷ louder_g ∷ []

-- ---- a voice of this kind is matched by one of the same pitch, at a level that is no lower
record Kind : Type 0 where
  same-zero : T (eq remainder.zero remainder.zero)
  same_half : T (eq half half)
  same-330 : T (eq hertz_330 hertz_330)
  one-no-lower : T (not (lt remainder.one remainder.one))
  half-no-lower : T (not (lt half half))
  one-above-half : T (not (lt remainder.one half))

kind : Kind
unfolding of_bits of_fields odd count_trailing_zeros eq lt
kind =
    record {
      same-zero = tt;
      same_half = tt;
      same-330 = tt;
      one-no-lower = tt;
      half-no-lower = tt;
      one-above-half = tt;
    }

at_level :
    (pitch : Pitch) → SamePitch pitch pitch → (x y : Float) → T (not (lt y x))
    → Matched (voice pitch x) (voice pitch y)
at_level pitch same x y h =
    record {
      pitch = same;
      timbre = kind.same_half;
      pan = kind.same-zero;
      level = h;
      pressure = kind.one-no-lower;
      volume = kind.one-no-lower;
      expression = kind.one-no-lower;
    }

same-note : (note : ℕ) → SamePitch (in_tune note) (in_tune note)
same-note note = record { note = refl; tuning = kind.same-zero }

itself : (pitch : Pitch) → SamePitch pitch pitch → Matched (voice pitch half) (voice pitch half)
itself pitch same = at_level pitch same half half kind.half-no-lower

C-itself : Matched C C
C-itself = itself (in_tune 60) (same-note 60)

E-itself : Matched E E
E-itself = itself (Hertz hertz_330) kind.same-330

G-itself : Matched G G
G-itself = itself (in_tune 67) (same-note 67)

-- ---- of two voices of this kind, at a level of a half: they are the same where pitch and pan are,
-- and their numbers are f32s
pub same-placed :
    (p q : Pitch) → SamePitch p q → (x y : Float) → T (eq x y)
    → SameVoice (placed p half x) (placed q half y)
unfolding of_bits of_fields odd count_trailing_zeros eq
same-placed p q same x y e =
    record {
      pitch = same;
      level = tt;
      pressure = tt;
      timbre = tt;
      volume = tt;
      expression = tt;
      pan = e;
    }

pub placed-f32 :
    (pitch : Pitch) (pan : Float) → F32Pitch pitch → T (fits binary32 pan)
    → F32Voice (placed pitch half pan)
unfolding of_bits of_fields odd count_trailing_zeros fits
placed-f32 pitch pan p q =
    record {
      pitch = p;
      level = tt;
      pressure = tt;
      timbre = tt;
      volume = tt;
      expression = tt;
      pan = q;
    }

-- the three voices of a list, each with its match
three :
    (a b c : MaskVoice) (ys : List MaskVoice) → MatchIn a ys → MatchIn b ys → MatchIn c ys
    → MatchedIn (a ∷ b ∷ c ∷ []) ys
three a b c ys p q r zero h = p
three a b c ys p q r (suc zero) h = q
three a b c ys p q r (suc (suc zero)) h = r
three a b c ys p q r (suc (suc (suc i))) h = absurd (omega arith)

pub one_more : MatchedIn chord with_one_more
one_more =
    three C E G with_one_more (record { place = 0; there = lit< tt; matches = C-itself })
    (record { place = 1; there = lit< tt; matches = E-itself })
    (record { place = 3; there = lit< tt; matches = G-itself })

pub turned_round : MatchedIn chord reversed
turned_round =
    three C E G reversed (record { place = 2; there = lit< tt; matches = C-itself })
    (record { place = 1; there = lit< tt; matches = E-itself })
    (record { place = 0; there = lit< tt; matches = G-itself })

pub turned-back : MatchedIn reversed chord
turned-back =
    three G E C chord (record { place = 2; there = lit< tt; matches = G-itself })
    (record { place = 1; there = lit< tt; matches = E-itself })
    (record { place = 0; there = lit< tt; matches = C-itself })

pub raised : MatchedIn chord with_g_raised
raised =
    three C E G with_g_raised (record { place = 0; there = lit< tt; matches = C-itself })
    (record { place = 1; there = lit< tt; matches = E-itself })
    (record {
      place = 2;
      there = lit< tt;
      matches = at_level (in_tune 67) (same-note 67) half remainder.one kind.one-above-half;
    })

-- ---- a note and the hertz that it sounds: one fundamental, and no match either way
pub one-fundamental : fundamental_of A ≡ fundamental_of a_by_hertz
unfolding fundamental_of pitch_hertz E2 power_of power_at moved interp power_table is_nan of_bits of_fields
    of_int add sub sum neg mul div round size span climb units odd count_trailing_zeros
one-fundamental = refl

matched-in-one : (a b : MaskVoice) → MatchedIn (a ∷ []) (b ∷ []) → SamePitch a.pitch b.pitch
matched-in-one a b m = at (m 0 (lit< tt))
  where
    at : MatchIn a (b ∷ []) → SamePitch a.pitch b.pitch
    at match =
        subst (λ i. SamePitch a.pitch (get_or (b ∷ []) i no_voice).pitch) none
        match.matches.pitch
      where
        none : match.place ≡ 0
        none = omega (arith, match.there)

pub a-note-is-not-its-hertz : MatchedIn (A ∷ []) (a_by_hertz ∷ []) → ⊥
a-note-is-not-its-hertz m = matched-in-one A a_by_hertz m

pub nor-the-hertz-the-note : MatchedIn (a_by_hertz ∷ []) (A ∷ []) → ⊥
nor-the-hertz-the-note m = matched-in-one a_by_hertz A m

-- ---- the law at each
module _ (a b : Call) (fa : F32Call a) (fb : F32Call b)
    (c : Comparable (whole a) (whole b)) (is-chord : given a ≡ chord) where
  beneath :
      (ys : List MaskVoice) → given b ≡ ys → MatchedIn chord ys → NowhereAbove a.curve b.curve
      → Beneath (whole a) (whole b)
  beneath ys e m h =
      let on-chord = subst (λ zs. MatchedIn chord zs) (sym e) m in
      record { matched = subst (λ xs. MatchedIn xs (given b)) (sym is-chord) on-chord; curve = h }

  pub a-voice-more-lowers-no-bin :
      given b ≡ with_one_more → NowhereAbove a.curve b.curve
      → MasksNotAbove (whole a) (whole b)
  a-voice-more-lowers-no-bin e h = masks-not-above a b fa fb c (beneath with_one_more e one_more h)

  pub a-level-raised-lowers-no-bin :
      given b ≡ with_g_raised → NowhereAbove a.curve b.curve
      → MasksNotAbove (whole a) (whole b)
  a-level-raised-lowers-no-bin e h = masks-not-above a b fa fb c (beneath with_g_raised e raised h)

  pub the-order-does-not-count :
      given b ≡ reversed → NowhereAbove a.curve b.curve → NowhereAbove b.curve a.curve
      → MasksEqual (whole a) (whole b)
  the-order-does-not-count e h k =
      let back = subst (λ zs. MatchedIn reversed zs) (sym is-chord) turned-back in
      masks-equal a b fa fb c (beneath reversed e turned_round h)
      (record { matched = subst (λ xs. MatchedIn xs (given a)) (sym e) back; curve = k })
