-- How open each shape is. Every shape lies between 0 and 1: sine and cosine lie in -1..1, a clamp
-- ends in 0..1, exp of what is not above 0 is at most 1, and smoothstep keeps 0..1, so that Saw's
-- fall, 1 less smoothstep, lies there too. Ripple, Harmonic, Drift, Scan and Notch do so whatever
-- they are given. Saw is NaN where its cycle has no place. Sprinkle and Cloud are 1. Assumes
-- nothing.
use mathlib.Core.Path.{◌≡◌, refl, sym, ap, ◌∙◌, subst}
use mathlib.Core.Logic.{◌⊎◌, inl, inr}
use mathlib.Core.Bool.{Bool, true, false, not, cond}
use Prim.Native.Nat.{◌*◌}
use lib.IntN.{pos}
use lib.Dec.{T}
use lib.Count.{count_trailing_zeros}
use lib.Ieee.{Float, nan, inf, fin, up, down, binary32, fits, lt, le, neg, add, sub, sum, mul, div, rem, round, size, span, climb, units, odd, of_bits, of_fields}
use lib.Ieee.Fits.{add-fits, sub-fits, mul-fits, rem-fits, cond-fits}
use lib.Ieee.Positive.{positive}
use Rattle.float_laws.specs.Units.{number, real, real-number}
use Rattle.float_laws.specs.Order.{le_left, le-trans-f, lt→le-f, not-lt-f, clamp-number, clamp-low, clamp-high}
use Rattle.float_laws.specs.Round.{plus_zero, round_number}
use Rattle.float_laws.specs.Ops.{mul-comm-f}
use Rattle.float_laws.specs.Inf.{mul-by-turns}
use Rattle.float_laws.specs.Bounds.{one, real-one, one-nonneg, round-nonneg}
use Rattle.float32.specs.Constants.{log2_e}
use Rattle.float32.specs.Order.{clamp}
use Rattle.float32.specs.Powers.{square}
use Rattle.float32.specs.Remainder as remainder
use Rattle.float32.specs.Remainder.{half, rem_euclid_one}
use Rattle.float32.proofs.OrderAgrees.{clamp-agrees}
use Rattle.float32.proofs.Limits.{within_low, within-high, within-number}
use Rattle.float32.proofs.RemainderInUnit.{remainder-in-unit}
use Rattle.float32.proofs.Smoothstep.{smoothstep-in-unit}
use Rattle.power.specs.Power.{E2}
use Rattle.power.specs.Decimal.{exp}
use Rattle.power.proofs.Ends.{E2-nan}
use Rattle.power.proofs.Range.{E2-nonneg, E2-number}
use Rattle.power.proofs.Bases.{exp-at-most-one}
use Rattle.sine.specs.Sine.{wave, sin_of, cos_of}
use Rattle.sine.proofs.Range.{sin-within-one, cos-within-one}
use Rattle.scene.specs.declared.MotionShape.{MotionShape}
use Rattle.scene.specs.declared.MotionShape.TheVariants.{Ripple, Harmonic, Drift, Scan, Notch, Saw, Sprinkle, Cloud}
use Rattle.scene.specs.declared.MotionConfig.{MotionConfig}
use Rattle.float32.specs.Smoothstep.{smoothstep}
use Rattle.motion.specs.Shapes.{reset_start, ripple, harmonic, broad, middle, detail, drift, window, saw_at, saw}
use Rattle.motion.specs.Field.{shape_at, resting, openness}
use Rattle.motion.proofs.Between.{Between, between, wider, between-add, between-sub, between-mul, between-times, between-over}

abbrev pub Level : Float → Type 0
Level x = Between plus_zero one x

-- ---- the constants of the shapes as values, and 0 and 1
pub zero-real : T (real binary32 plus_zero)
unfolding fits
zero-real = tt

pub zero_is : remainder.zero ≡ plus_zero
unfolding of_bits of_fields
zero_is = refl

pub one-is : remainder.one ≡ one
unfolding of_bits of_fields odd count_trailing_zeros
one-is = refl

pub one_number : T (number binary32 one)
one_number = real-number binary32 one (real-one binary32)

pub zero_number : T (number binary32 plus_zero)
zero_number = real-number binary32 plus_zero zero-real

pub one_same : T (le one one)
unfolding le
one_same = tt

pub one-level : Level one
unfolding le
one-level = between plus_zero one one one_number zero-real (real-one binary32) tt tt

zero-level : Level plus_zero
unfolding le
zero-level = between plus_zero one plus_zero zero_number zero-real (real-one binary32) tt tt

-- ---- sine and cosine as values
minus-one-real : T (real binary32 (neg one))
unfolding fits neg
minus-one-real = tt

sine-between : (θ : Float) → Between (neg one) one (sin_of θ)
unfolding sin_of wave
sine-between θ = between (neg one) one (sin_of θ) (round_number binary32 _ _ _) minus-one-real (real-one binary32) (sin-within-one θ).0 (sin-within-one θ).1

cosine-between : (θ : Float) → Between (neg one) one (cos_of θ)
unfolding cos_of wave
cosine-between θ = between (neg one) one (cos_of θ) (round_number binary32 _ _ _) minus-one-real (real-one binary32) (cos-within-one θ).0 (cos-within-one θ).1

-- ---- a clamp to 0..1
clamped : (x : Float) → T (real binary32 x) → Level (clamp remainder.zero remainder.one x)
clamped x p =
    let n = real-number binary32 x p in
    rw (clamp-agrees remainder.zero remainder.one x, zero_is, one-is)
    (between plus_zero one _ (clamp-number binary32 plus_zero one zero_number one_number one-nonneg x n) zero-real (real-one binary32)
    (clamp-low binary32 plus_zero one zero_number one_number one-nonneg x n) (clamp-high binary32 plus_zero one zero_number one_number one-nonneg x n))

-- ---- Ripple and Harmonic
half-above : T (positive half)
unfolding of_bits of_fields odd count_trailing_zeros
half-above = tt

half-between : Between half half half
unfolding of_bits of_fields odd count_trailing_zeros fits le
half-between = between half half half tt tt tt tt tt

record HalfEnds : Type 0 where
  low : T (real binary32 (mul binary32 (neg one) half))
  high : T (real binary32 (mul binary32 one half))
  low_sum : T (real binary32 (add binary32 half (mul binary32 (neg one) half)))
  high_sum : T (real binary32 (add binary32 half (mul binary32 one half)))

half-ends : HalfEnds
unfolding of_bits of_fields odd count_trailing_zeros fits neg mul add sum round size span climb units
half-ends = record { low = tt; high = tt; low_sum = tt; high_sum = tt }

pub ripple-level : (x size phase : Float) → Level (ripple x size phase)
unfolding ripple
ripple-level x size phase =
    let e = half-ends in
    clamped _ (between-add half-between (between-times half half-above (cosine-between _) e.low e.high) e.low_sum e.high_sum).is_real

unit-real : T (real binary32 (mul binary32 plus_zero plus_zero)) × T (real binary32 (mul binary32 one one))
unfolding fits mul round size span climb units odd count_trailing_zeros
unit-real = (tt, tt)

unit_ends : T (le plus_zero (mul binary32 plus_zero plus_zero)) × T (le (mul binary32 one one) one)
unfolding le mul round size span climb units odd count_trailing_zeros
unit_ends = (tt, tt)

zero-nonneg : T (le plus_zero plus_zero)
unfolding le
zero-nonneg = tt

pub product : {x y : Float} → Level x → Level y → Level (mul binary32 x y)
product a b = wider plus_zero one zero-real (real-one binary32) unit_ends.0 unit_ends.1 (between-mul a b zero-nonneg zero-nonneg unit-real.0 unit-real.1)

pub harmonic-level : (x size phase : Float) → Level (harmonic x size phase)
unfolding harmonic
harmonic-level x size phase = let r = ripple-level x size phase in product (product (product r r) (product r r)) r

-- ---- Drift
abbrev broad_weight : Float
broad_weight = of_bits binary32 0x3e80_0000

abbrev middle_weight : Float
middle_weight = of_bits binary32 0x3e2e_147b

abbrev detail_weight : Float
detail_weight = of_bits binary32 0x3da3_d70a

record LayerEnds (k : Float) : Type 0 where
  above : T (positive k)
  low : T (real binary32 (mul binary32 (neg one) k))
  high : T (real binary32 (mul binary32 one k))

broad-ends : LayerEnds broad_weight
unfolding of_bits of_fields odd count_trailing_zeros fits neg mul round size span climb units
broad-ends = record { above = tt; low = tt; high = tt }

middle-ends : LayerEnds middle_weight
unfolding of_bits of_fields odd count_trailing_zeros fits neg mul round size span climb units
middle-ends = record { above = tt; low = tt; high = tt }

detail-ends : LayerEnds detail_weight
unfolding of_bits of_fields odd count_trailing_zeros fits neg mul round size span climb units
detail-ends = record { above = tt; low = tt; high = tt }

layer : {k : Float} → LayerEnds k → {w : Float} → Between (neg one) one w → Between (mul binary32 (neg one) k) (mul binary32 one k) (mul binary32 k w)
layer {k} e b = between-times k e.above b e.low e.high

-- the sums of the layers' ends, in the order of the sum
abbrev sums : Float → Float → Float → Float
sums a b c = add binary32 (add binary32 (add binary32 half a) b) c

record DriftEnds (w : Float) : Type 0 where
  first : T (real binary32 (add binary32 half (mul binary32 w broad_weight)))
  second : T (real binary32 (add binary32 (add binary32 half (mul binary32 w broad_weight)) (mul binary32 w middle_weight)))
  third : T (real binary32 (sums (mul binary32 w broad_weight) (mul binary32 w middle_weight) (mul binary32 w detail_weight)))

drift-low : DriftEnds (neg one)
unfolding of_bits of_fields odd count_trailing_zeros fits neg mul add sum round size span climb units
drift-low = record { first = tt; second = tt; third = tt }

drift-high : DriftEnds one
unfolding of_bits of_fields odd count_trailing_zeros fits neg mul add sum round size span climb units
drift-high = record { first = tt; second = tt; third = tt }

pub drift-level : (x size phase : Float) → Level (drift x size phase)
unfolding drift broad middle detail
drift-level x size phase =
    let l = drift-low in
    let h = drift-high in
    let a = between-add half-between (layer broad-ends (sine-between _)) l.first h.first in
    let b = between-add a (layer middle-ends (sine-between _)) l.second h.second in
    clamped _ (between-add b (layer detail-ends (sine-between _)) l.third h.third).is_real

-- ---- Scan and Notch
pub one-between : Between one one one
unfolding le
one-between = between one one one one_number (real-one binary32) (real-one binary32) tt tt

difference-real : T (real binary32 (sub binary32 one one)) × T (real binary32 (sub binary32 one plus_zero))
unfolding fits sub add sum neg round size span climb units odd count_trailing_zeros
difference-real = (tt, tt)

difference-ends : T (le plus_zero (sub binary32 one one)) × T (le (sub binary32 one plus_zero) one)
unfolding le sub add sum neg round size span climb units odd count_trailing_zeros
difference-ends = (tt, tt)

square-nonneg : (q : Float) → (q ≡ nan) ⊎ T (le plus_zero (square q))
unfolding mul le
square-nonneg nan = inl refl
square-nonneg (inf true) = inr tt
square-nonneg (inf false) = inr tt
square-nonneg (fin true m e) = inr (round-nonneg binary32 (m * up e * (m * up e)) (down e * down e))
square-nonneg (fin false m e) = inr (round-nonneg binary32 (m * up e * (m * up e)) (down e * down e))

minus-half-below : T (positive (neg (neg half)))
unfolding of_bits of_fields odd count_trailing_zeros neg
minus-half-below = tt

minus-half-zero : mul binary32 plus_zero (neg half) ≡ fin true 0 (pos 0)
unfolding of_bits of_fields odd count_trailing_zeros neg mul round size span climb units
minus-half-zero = refl

pub minus-zero-number : T (number binary32 (fin true 0 (pos 0)))
unfolding fits
minus-zero-number = tt

pub minus-zero-low : T (le (fin true 0 (pos 0)) plus_zero)
unfolding le
minus-zero-low = tt

not-above : (x : Float) → T (fits binary32 x) → T (le x (fin true 0 (pos 0))) → T (le x plus_zero)
not-above x f h = le-trans-f binary32 x (fin true 0 (pos 0)) plus_zero (le_left binary32 x (fin true 0 (pos 0)) f h) minus-zero-number zero_number h minus-zero-low

exp-level : (y : Float) → (y ≡ nan) ⊎ T (le y plus_zero) → Level (exp y)
unfolding mul
exp-level y (inl e) = subst Level (sym (ap E2 (ap (λ z. mul binary32 z log2_e) e) ∙ E2-nan)) zero-level
exp-level y (inr h) = between plus_zero one (exp y) (E2-number _) zero-real (real-one binary32) (E2-nonneg _) (exp-at-most-one y h)

bell-level : (q : Float) → Level (exp (mul binary32 (neg half) (square q)))
bell-level q = exp-level (mul binary32 (neg half) (square q)) (go (square-nonneg q))
  where
    go : (q ≡ nan) ⊎ T (le plus_zero (square q)) → (mul binary32 (neg half) (square q) ≡ nan) ⊎ T (le (mul binary32 (neg half) (square q)) plus_zero)
    go (inl e) = inl (mul-comm-f binary32 (neg half) (square q) ∙ unfold mul in ap (λ z. mul binary32 (square z) (neg half)) e)
    go (inr h) = inr (rw (mul-comm-f binary32 (neg half) (square q)) (not-above _ (mul-fits binary32 (square q) (neg half)) (rw minus-half-zero at (mul-by-turns binary32 (neg half) minus-half-below plus_zero (square q) h))))

pub window-level : (x size phase : Float) → Level (window x size phase)
unfolding window
window-level x size phase = bell-level _

one-less-level : {x : Float} → Level x → Level (sub binary32 one x)
one-less-level a =
    wider plus_zero one zero-real (real-one binary32) difference-ends.0 difference-ends.1
    (between-sub one-between a difference-real.0 difference-real.1)

pub notch-level : (x size phase : Float) → Level (sub binary32 remainder.one (window x size phase))
notch-level x size phase = rw one-is (one-less-level (window-level x size phase))

-- ---- Saw
remainder-fits : (v : Float) → T (fits binary32 v) → T (fits binary32 (rem_euclid_one v))
unfolding rem_euclid_one
remainder-fits v f =
    let r = rem binary32 v remainder.one in
    cond-fits binary32 (lt r remainder.zero) (add binary32 r remainder.one) r (add-fits binary32 r remainder.one) (rem-fits binary32 v remainder.one f)

pub in-unit : (v : Float) → T (real binary32 v) → T (fits binary32 v) → Level (rem_euclid_one v)
in-unit v p f =
    let r = rem_euclid_one v in
    let w = rw (zero_is, one-is) at (remainder-in-unit v p) in
    between plus_zero one r (within-number plus_zero one r w binary32 (remainder-fits v f)) zero-real (real-one binary32) (within_low plus_zero one r w) (within-high plus_zero one r w)

-- where the cycle has a place, it is one from 0 to 1
cycle-place : (v : Float) → T (fits binary32 v) → (rem_euclid_one v ≡ nan) ⊎ Level (rem_euclid_one v)
unfolding rem_euclid_one rem lt
cycle-place nan f = inl refl
cycle-place (inf s) f = inl refl
cycle-place (fin s m e) f = inr (in-unit (fin s m e) f f)

-- 1 - 0.9, rounded
abbrev fall : Float
fall = sub binary32 one reset_start

record SawEnds : Type 0 where
  reset-above : T (positive reset_start)
  reset-real : T (real binary32 reset_start)
  reset-same : T (le reset_start reset_start)
  rise-low : T (real binary32 (div binary32 plus_zero reset_start))
  rise-high : T (real binary32 (div binary32 reset_start reset_start))
  rise-from : T (le plus_zero (div binary32 plus_zero reset_start))
  rise-to : T (le (div binary32 reset_start reset_start) one)
  fall-above : T (positive fall)
  fall-zero : T (real binary32 (sub binary32 reset_start reset_start))
  fall-real : T (real binary32 fall)
  fall-low : T (real binary32 (div binary32 (sub binary32 reset_start reset_start) fall))
  fall-high : T (real binary32 (div binary32 fall fall))
  fall-from : T (le plus_zero (div binary32 (sub binary32 reset_start reset_start) fall))
  fall-to : T (le (div binary32 fall fall) one)

saw-ends : SawEnds
unfolding of_bits of_fields odd count_trailing_zeros fits neg add sub sum div round size span climb units le
saw-ends =
    record {
      reset-above = tt;
      reset-real = tt;
      reset-same = tt;
      rise-low = tt;
      rise-high = tt;
      rise-from = tt;
      rise-to = tt;
      fall-above = tt;
      fall-zero = tt;
      fall-real = tt;
      fall-low = tt;
      fall-high = tt;
      fall-from = tt;
      fall-to = tt;
    }

smoothed : (p : Float) → Level p → Level (smoothstep p)
smoothed p a =
    let s = smoothstep-in-unit p (record { finite = a.is_real; low = a.low; high = a.high }) in
    record { from = zero-real; to = real-one binary32; is_real = s.finite; low = s.low; high = s.high }

pub saw-level : (cycle : Float) → Level cycle → Level (saw_at cycle)
unfolding saw_at
saw-level cycle a =
    rw one-is
    (go (lt cycle reset_start) (lt→le-f binary32 cycle reset_start n r) (not-lt-f binary32 cycle reset_start n r))
  where
    n : T (number binary32 cycle)
    n = real-number binary32 cycle a.is_real

    r : T (number binary32 reset_start)
    r = real-number binary32 reset_start saw-ends.reset-real

    rising : T (le cycle reset_start) → Level (div binary32 cycle reset_start)
    rising h =
        let e = saw-ends in
        wider plus_zero one zero-real (real-one binary32) e.rise-from e.rise-to
        (between-over reset_start e.reset-above (between plus_zero reset_start cycle n zero-real e.reset-real a.low h) e.rise-low e.rise-high)

    falling : T (le reset_start cycle) → Level (sub binary32 one (smoothstep (div binary32 (sub binary32 cycle reset_start) fall)))
    falling h =
        let e = saw-ends in
        let from = between reset_start one cycle n e.reset-real (real-one binary32) h a.high in
        let start = between reset_start reset_start reset_start r e.reset-real e.reset-real e.reset-same e.reset-same in
        let p = between-over fall e.fall-above (between-sub from start e.fall-zero e.fall-real) e.fall-low e.fall-high in
        let step = smoothed _ (wider plus_zero one zero-real (real-one binary32) e.fall-from e.fall-to p) in
        one-less-level step

    go : (b : Bool) → (T b → T (le cycle reset_start)) → (T (not b) → T (le reset_start cycle))
        → Level (cond b (div binary32 cycle reset_start) (sub binary32 one (smoothstep (div binary32 (sub binary32 cycle reset_start) fall))))
    go true h k = rising (h tt)
    go false h k = falling (k tt)

saw-of-nan : saw_at nan ≡ nan
unfolding saw_at smoothstep lt add sub sum neg mul div of_bits of_fields odd count_trailing_zeros round size span climb units
saw-of-nan = refl

-- ---- every shape, and the resting states
abbrev pub Opening : Float → Type 0
Opening o = (o ≡ nan) ⊎ Level o

saw-open : (x size phase : Float) → Opening (saw x size phase)
unfolding saw
saw-open x size phase = let v = sub binary32 (div binary32 x size) phase in go (rem_euclid_one v) (cycle-place v (sub-fits binary32 (div binary32 x size) phase))
  where
    go : (cycle : Float) → (cycle ≡ nan) ⊎ Level cycle → Opening (saw_at cycle)
    go cycle (inl e) = inl (ap saw_at e ∙ saw-of-nan)
    go cycle (inr a) = inr (saw-level cycle a)

rests-open : Opening remainder.one
rests-open = inr (rw one-is one-level)

pub shape-open : (shape : MotionShape) (x size phase : Float) → Opening (shape_at shape x size phase)
shape-open Ripple x size phase = inr (ripple-level x size phase)
shape-open Harmonic x size phase = inr (harmonic-level x size phase)
shape-open Drift x size phase = inr (drift-level x size phase)
shape-open Scan x size phase = inr (window-level x size phase)
shape-open Notch x size phase = inr (notch-level x size phase)
shape-open Saw x size phase = saw-open x size phase
shape-open Sprinkle x size phase = rests-open
shape-open Cloud x size phase = rests-open

pub openness-open : (frequency : Float) (config : MotionConfig) → Opening (openness frequency config)
unfolding openness
openness-open frequency config = go (resting frequency config) (shape-open config.shape _ _ _)
  where
    go : (b : Bool) {o : Float} → Opening o → Opening (cond b remainder.one o)
    go true w = rests-open
    go false w = w

-- it rests at 1 up to a depth of 0.001, and below the lowest frequency shown
pub rests-at-one : (frequency : Float) (config : MotionConfig) → T (resting frequency config) → openness frequency config ≡ one
unfolding openness
rests-at-one frequency config h = go (resting frequency config) _ h
  where
    go : (b : Bool) (o : Float) → T b → cond b remainder.one o ≡ one
    go true o t = one-is
    go false o t = absurd t
