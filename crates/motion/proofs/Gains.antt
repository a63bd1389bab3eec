-- What the field leaves of a frequency lies between 0 and 1, for every setting of a finite depth:
-- the openness is at most 1, so the attenuation is not below 0 (or NaN, whose power is 0), and 10
-- to a power that is not above 0 is at most 1. Where the field is wholly open the attenuation is 0.
-- Assumes nothing.
use mathlib.Core.Path.{◌≡◌, refl, sym, ap, ◌∙◌, subst}
use mathlib.Core.Logic.{◌⊎◌, inl, inr}
use mathlib.Core.Bool.{Bool, true, false, cond}
use Prim.Native.Nat.{ℕ, ◌*◌, ◌^◌}
use native.Mathlib.Nat.{mul-zero}
use native.Mathlib.Omega.{arith}
use lib.IntN.{pos}
use lib.Dec.{T}
use lib.Count.{count_trailing_zeros}
use lib.Ieee.{Float, nan, fin, Format, binary32, low, unlike, fits, lt, le, eq, neg, add, sub, sum, mul, div, round, size, span, climb, units, odd, of_bits, of_fields}
use lib.Ieee.Positive.{positive}
use lib.Ieee.Scale.{overflow}
use Rattle.float_laws.specs.Units.{mag, sign, number, real, key, keyed, key→eq, real-number}
use Rattle.float_laws.specs.Order.{le-trans-f, larger, larger-right}
use Rattle.float_laws.specs.Round.{plus_zero, mag-zero, real-zero, rnd, rnd-zero, key-round, key-zero, squared-pos}
use Rattle.float_laws.specs.Ops.{mul-comm-f, mul-round}
use Rattle.float_laws.specs.Mono.{mul-number, mul-nonneg, number-neg, le-neg}
use Rattle.float_laws.specs.Inf.{div-by}
use Rattle.float_laws.specs.Bounds.{one, real-one}
use Rattle.float_laws.specs.Exact.{sub_self}
use Rattle.float_laws.specs.Rise.{Upto}
use Rattle.float32.specs.Constants.{log2_10}
use Rattle.float32.specs.Order.{maximum}
use Rattle.float32.specs.Remainder as remainder
use Rattle.float32.proofs.OrderAgrees.{maximum-larger}
use Rattle.power.specs.Power.{E2}
use Rattle.power.proofs.Ends.{E2-nan}
use Rattle.power.proofs.Range.{E2-number, E2-nonneg}
use Rattle.power.proofs.Bases.{pow10-at-most-one}
use Rattle.scene.specs.declared.MotionConfig.{MotionConfig}
use Rattle.decibels.specs.Gain.{gain_of}
use Rattle.motion.specs.Field.{openness, attenuation, motion_gain}
use Rattle.motion.proofs.Between.{Between, between, between-sub, level}
use Rattle.motion.proofs.Openings.{Opening, openness-open, zero-real, zero_number, zero_is, one-is, one-between, minus-zero-number, minus-zero-low}

-- ---- the depth, from 0 up
module _ (depth : Float) (p : T (real binary32 depth)) where
  depth_is : maximum depth remainder.zero ≡ larger depth plus_zero
  depth_is = maximum-larger binary32 depth remainder.zero (real-number binary32 depth p) ∙ ap (larger depth) zero_is

  depth-real : T (real binary32 (maximum depth remainder.zero))
  depth-real = rw depth_is (go (lt depth plus_zero))
    where
      go : (b : Bool) → T (real binary32 (cond b plus_zero depth))
      go true = zero-real
      go false = p

  depth-nonneg : T (le plus_zero (maximum depth remainder.zero))
  depth-nonneg = rw depth_is (larger-right binary32 depth plus_zero (real-number binary32 depth p) zero_number)

-- ---- the attenuation
record ShutEnds : Type 0 where
  low : T (real binary32 (sub binary32 one one))
  high : T (real binary32 (sub binary32 one plus_zero))
  from : T (le plus_zero (sub binary32 one one))

shut-ends : ShutEnds
unfolding of_bits of_fields odd count_trailing_zeros fits neg add sub sum round size span climb units le
shut-ends = record { low = tt; high = tt; from = tt }

-- NaN, or a number from 0 up
abbrev Shut : Float → Type 0
Shut a = (a ≡ nan) ⊎ (T (number binary32 a) × T (le plus_zero a))

nan-product : (d : Float) → mul binary32 d (sub binary32 one nan) ≡ nan
nan-product d = mul-comm-f binary32 d (sub binary32 one nan) ∙ unfold sub add neg mul in refl

shut : (d o : Float) → T (real binary32 d) → T (le plus_zero d) → Opening o → Shut (mul binary32 d (sub binary32 one o))
shut d o p h (inl e) = inl (ap (λ z. mul binary32 d (sub binary32 one z)) e ∙ nan-product d)
shut d o p h (inr b) =
    let e = shut-ends in
    let w = between-sub one-between b e.low e.high in
    let z = le-trans-f binary32 plus_zero (sub binary32 one one) (sub binary32 one o) zero_number (real-number binary32 (sub binary32 one one) e.low) (real-number binary32 (sub binary32 one o) w.is_real) e.from w.low in
    inr (mul-number binary32 d (sub binary32 one o) p w.is_real, mul-nonneg binary32 d (sub binary32 one o) p w.is_real h z)

attenuation-shut : (frequency : Float) (config : MotionConfig) → T (real binary32 config.depth_db) → Shut (attenuation frequency config)
unfolding attenuation
attenuation-shut frequency config p =
    let d = maximum config.depth_db remainder.zero in
    subst (λ z. Shut (mul binary32 d (sub binary32 z (openness frequency config)))) (sym one-is)
    (shut d (openness frequency config) (depth-real config.depth_db p) (depth-nonneg config.depth_db p) (openness-open frequency config))

-- where the field is wholly open there is none; with the depth -0 it is the zero with a minus sign
keyed-none : (K : ℕ) (s : Bool) (m : ℕ) → m ≡ 0 → keyed K s m ≡ K
keyed-none K false m h = omega arith
keyed-none K true m h = omega arith

zero-product : (f : Format) (x : Float) → T (real f x) → T (eq (mul f x plus_zero) plus_zero)
zero-product f x p =
    let L = 2 ^ low f in
    let z = real-zero f false in
    let e : rnd f (mag f x * mag f plus_zero) (L * L) ≡ 0 = ap (λ (n : ℕ). rnd f (mag f x * n) (L * L)) (mag-zero f false (pos 0)) ∙ ap (λ (n : ℕ). rnd f n (L * L)) (mul-zero (mag f x)) ∙ rnd-zero f (L * L) (squared-pos f) in
    key→eq f (mul f x plus_zero) plus_zero (mul-number f x plus_zero p z) (real-number f plus_zero z)
    (ap (key f) (mul-round f x plus_zero p z) ∙ key-round f (unlike (sign x) false) (mag f x * mag f plus_zero) (L * L) ∙ keyed-none (overflow f) (unlike (sign x) false) _ e ∙ sym (key-zero f))

pub open-is-not-attenuated : (frequency : Float) (config : MotionConfig) → T (real binary32 config.depth_db) → openness frequency config ≡ one → T (eq (attenuation frequency config) plus_zero)
unfolding attenuation
open-is-not-attenuated frequency config p e =
    rw (one-is, e, sub_self binary32 one (real-one binary32)) (zero-product binary32 (maximum config.depth_db remainder.zero) (depth-real config.depth_db p))

-- ---- its gain
abbrev twenty : Float
twenty = of_bits binary32 0x41a0_0000

record TwentyEnds : Type 0 where
  above : T (positive twenty)
  zero : div binary32 plus_zero twenty ≡ plus_zero

twenty-ends : TwentyEnds
unfolding of_bits of_fields odd count_trailing_zeros div round size span climb units
twenty-ends = record { above = tt; zero = refl }

exponent-of-nan : mul binary32 (div binary32 (neg nan) twenty) log2_10 ≡ nan
unfolding neg div mul
exponent-of-nan = refl

gain-of-nan : gain_of (neg nan) ≡ plus_zero
gain-of-nan = ap E2 exponent-of-nan ∙ E2-nan

gain-between : (a : Float) → Shut a → Between plus_zero one (gain_of (neg a))
gain-between a s = between plus_zero one (gain_of (neg a)) (E2-number _) zero-real (real-one binary32) (E2-nonneg _) (go s)
  where
    go : Shut a → T (le (gain_of (neg a)) one)
    go (inl e) = subst (λ z. T (le z one)) (sym (ap (λ z. gain_of (neg z)) e ∙ gain-of-nan)) (unfold le in tt)
    go (inr h) =
        let n = number-neg binary32 a h.0 in
        let below = le-trans-f binary32 (neg a) (fin true 0 (pos 0)) plus_zero n minus-zero-number zero_number (unfold neg in le-neg binary32 plus_zero a zero_number h.0 h.1) minus-zero-low in
        pow10-at-most-one (div binary32 (neg a) twenty) (rw twenty-ends.zero at (div-by binary32 twenty twenty-ends.above (neg a) plus_zero below))

pub motion-gain-between : (frequency : Float) (config : MotionConfig) → T (real binary32 config.depth_db) → Between plus_zero one (motion_gain frequency config)
unfolding motion_gain
motion-gain-between frequency config p = gain-between (attenuation frequency config) (attenuation-shut frequency config p)

-- what the mask builder's chains take
pub motion-gain-level : (frequency : Float) (config : MotionConfig) → T (real binary32 config.depth_db) → Upto binary32 0 (motion_gain frequency config)
motion-gain-level frequency config p = level (motion-gain-between frequency config p)
