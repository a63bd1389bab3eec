-- Levels stay in 0..1, and a level never moves away from its target, with one exception, which is
-- document 01's and the Rust's alike: a step that ends below 0.000001 ends at 0, for a held note
-- too. A released level goes down and not below 0; a held one goes up and not above 1 (float_laws
-- Range). Assumes nothing.
use mathlib.Core.Path.{◌≡◌, refl, sym, subst}
use mathlib.Core.Bool.{Bool, true, false, cond}
use Prim.Native.Nat.{ℕ, ◌<◌}
use native.Mathlib.Nat.{lt_of_le_of_lt}
use lib.Dec.{T, T_not}
use lib.Ieee.{Float, Format, binary32, of_bits, fits, add, sub, mul, le, lt}
use lib.Ieee.Scale.{overflow}
use Rattle.float_laws.specs.Units.{number, mag, sign, key, keyed, keyed-le, real-number, lt→key, key→lt}
use Rattle.float_laws.specs.Order.{le-trans-f, lt-of-le-of-lt-f, le→not-lt-f, le-refl-f}
use Rattle.float_laws.specs.Round.{plus_zero, real-zero}
use Rattle.float_laws.specs.Bounds as bounds
use Rattle.float_laws.specs.Bounds.{real-one}
use Rattle.float_laws.specs.Range.{toward-lower-nonneg, toward-lower-most, toward-lower-real, toward-one-least, toward-one-most, toward-one-real}
use Rattle.float32.specs.Order.{magnitude}
use Rattle.float32.specs.Remainder.{zero}
use Rattle.float32.proofs.InUnit.{InUnit, zero-in-unit}
use Rattle.float32.proofs.Limits.{within_low, within-high, within_real}
use Rattle.float32.proofs.Magnitude.{magnitude-clear, magnitude-size, magnitude-is-number}
use Rattle.limits.specs.Limits as limits
use Rattle.limits.specs.Limits.{least_level, most_level}
use Rattle.envelopes.specs.Envelope.{target_of, SILENCE, settled, next_level}

-- where a level is before it is settled
abbrev pub moved : Bool → Float → Float → Float
moved held alpha level = add binary32 level (mul binary32 (sub binary32 (target_of held) level) alpha)

-- ---- what the test of a level says of an f32
pub accepted-unit : (x : Float) → T (fits binary32 x) → T (limits.level x) → InUnit x
unfolding of_bits fits
accepted-unit x F w = record {
  finite = within_real least_level most_level x w binary32 F tt tt;
  low = within_low least_level most_level x w;
  high = within-high least_level most_level x w;
}

-- ---- what is below in magnitude is below
module _ (f : Format) (x y : Float) (p : T (number f x)) (q : T (number f y)) where
  magnitude-key : key f (magnitude x) ≡ keyed (overflow f) false (mag f x)
  magnitude-key = rw (magnitude-clear x, magnitude-size f x)

  below-of-magnitude : T (lt (magnitude x) y) → T (lt x y)
  below-of-magnitude h = key→lt f x y p q (lt_of_le_of_lt (keyed-le (overflow f) (sign x) (mag f x)) (subst (λ (k : ℕ). k < key f y) magnitude-key (lt→key f (magnitude x) y (magnitude-is-number f x p) q h)))

-- ---- before it is settled
module _ (alpha level : Float) (a : InUnit alpha) (l : InUnit level) where
  zero_number : T (number binary32 plus_zero)
  zero_number = real-number binary32 plus_zero (real-zero binary32 false)

  one_number : T (number binary32 bounds.one)
  one_number = real-number binary32 bounds.one (real-one binary32)

  level-number : T (number binary32 level)
  level-number = real-number binary32 level l.finite

  falls : T (le (moved false alpha level) level)
  unfolding of_bits
  falls = toward-lower-most binary32 level plus_zero alpha l.finite (real-zero binary32 false) a.finite (le-refl-f binary32 plus_zero zero_number) l.low a.low a.high

  rises : T (le level (moved true alpha level))
  unfolding of_bits
  rises = toward-one-least level alpha l.finite a.finite l.low l.high a.low a.high

  pub moved-unit : (held : Bool) → InUnit (moved held alpha level)
  unfolding of_bits
  moved-unit false =
      let z = le-refl-f binary32 plus_zero zero_number in
      let o = real-zero binary32 false in
      let r = toward-lower-real binary32 level plus_zero alpha l.finite o a.finite z l.low a.low a.high in
      record {
        finite = r;
        low = toward-lower-nonneg binary32 level plus_zero alpha l.finite o a.finite z l.low a.low a.high;
        high = le-trans-f binary32 (moved false alpha level) level bounds.one (real-number binary32 (moved false alpha level) r) level-number one_number falls l.high;
      }
  moved-unit true =
      let r = toward-one-real level alpha l.finite a.finite l.low l.high a.low a.high in
      record {
        finite = r;
        low = le-trans-f binary32 plus_zero level (moved true alpha level) zero_number level-number (real-number binary32 (moved true alpha level) r) l.low rises;
        high = toward-one-most level alpha l.finite a.finite l.low l.high a.low a.high;
      }

-- ---- settled
settled-unit : (x : Float) → InUnit x → InUnit (settled x)
unfolding settled of_bits
settled-unit x u = go (lt (magnitude x) SILENCE)
  where
    go : (b : Bool) → InUnit (cond b zero x)
    go true = zero-in-unit
    go false = u

settled-silent : (x : Float) → lt (magnitude x) SILENCE ≡ true → settled x ≡ zero
unfolding settled
settled-silent x e = rw e

settled_same : (x : Float) → lt (magnitude x) SILENCE ≡ false → settled x ≡ x
unfolding settled
settled_same x e = rw e

-- ---- the laws of one step
module _ (alpha level : Float) (a : InUnit alpha) (l : InUnit level) where
  pub level-in-range : (held : Bool) → InUnit (next_level held alpha level)
  level-in-range held = settled-unit (moved held alpha level) (moved-unit alpha level a l held)

  -- a released level never rises
  pub released-never-rises : T (le (next_level false alpha level) level)
  unfolding settled of_bits
  released-never-rises = go (lt (magnitude (moved false alpha level)) SILENCE)
    where
      go : (b : Bool) → T (le (cond b zero (moved false alpha level)) level)
      go true = l.low
      go false = falls alpha level a l

  -- a held level never falls, where the step does not end in silence
  pub held-never-falls : lt (magnitude (moved true alpha level)) SILENCE ≡ false → T (le level (next_level true alpha level))
  held-never-falls e = rw (settled_same (moved true alpha level) e) (rises alpha level a l)

  -- the exception: where it does, the level was below 0.000001 and becomes +0
  pub held-in-silence : lt (magnitude (moved true alpha level)) SILENCE ≡ true → T (lt level SILENCE) × (next_level true alpha level ≡ zero)
  unfolding fits of_bits
  held-in-silence e =
      let m = moved true alpha level in
      let n = real-number binary32 m (moved-unit alpha level a l true).finite in
      (lt-of-le-of-lt-f binary32 level m SILENCE (real-number binary32 level l.finite) n tt (rises alpha level a l) (below-of-magnitude binary32 m SILENCE n tt (subst T (sym e) tt)), settled-silent m e)

  -- so a held level from 0.000001 up never falls
  pub held-from-silence-never-falls : T (le SILENCE level) → T (le level (next_level true alpha level))
  unfolding fits of_bits
  held-from-silence-never-falls h = go (lt (magnitude (moved true alpha level)) SILENCE) held-never-falls held-in-silence
    where
      go : (b : Bool) → (b ≡ false → T (le level (next_level true alpha level))) → (b ≡ true → T (lt level SILENCE) × (next_level true alpha level ≡ zero))
          → T (le level (next_level true alpha level))
      go false up out = up refl
      go true up out = absurd (T_not (lt level SILENCE) (le→not-lt-f binary32 SILENCE level tt (real-number binary32 level l.finite) h) (out refl).0)
