-- In accepted settings the openness is a finite number in 0..1 at every frequency, Saw's too: the
-- logarithm lies in -126..128, the size is at least 0.05 and the phase is taken from 0 to 1, so the
-- place in the cycle is finite. Assumes nothing.
use mathlib.Core.Path.{◌≡◌}
use mathlib.Core.Bool.{Bool, true, false, cond}
use lib.Dec.{T}
use lib.Count.{count_trailing_zeros}
use lib.Ieee.{Float, binary32, fits, lt, le, neg, add, sub, sum, div, round, size, span, climb, units, odd, of_bits, of_fields}
use lib.Ieee.Fits.{sub-fits}
use Rattle.float_laws.specs.Units.{number, real, real-number}
use Rattle.float_laws.specs.Order.{number_fits, le-trans-f, lt-of-lt-of-le-f, larger, larger-right}
use Rattle.float_laws.specs.Round.{plus_zero}
use Rattle.float_laws.specs.Mono.{above_zero, div-number, div_mono, div-anti, div-rises}
use Rattle.float_laws.specs.Bounds.{one}
use Rattle.float32.specs.Order.{maximum}
use Rattle.float32.specs.Remainder as remainder
use Rattle.float32.specs.Remainder.{rem_euclid_one}
use Rattle.float32.proofs.OrderAgrees.{maximum-larger}
use Rattle.power.specs.Log.{L2}
use Rattle.power.specs.Power.{lowest, limit}
use Rattle.power.proofs.LogRange.{L2-range, L2-real}
use Rattle.scene.specs.declared.MotionShape.{MotionShape}
use Rattle.scene.specs.declared.MotionShape.TheVariants.{Ripple, Harmonic, Drift, Scan, Notch, Saw, Sprinkle, Cloud}
use Rattle.scene.specs.declared.MotionConfig.{MotionConfig}
use Rattle.motion.specs.Shapes.{saw}
use Rattle.motion.specs.Field.{min_size_octaves, shape_at, resting, openness}
use Rattle.motion.proofs.Between.{Between, between, between-sub}
use Rattle.motion.proofs.Openings.{Level, zero_number, one-is, one-level, ripple-level, harmonic-level, drift-level, window-level, notch-level, in-unit, saw-level}

-- ---- the size
record SizeEnds : Type 0 where
  is_real : T (real binary32 min_size_octaves)
  above : T (lt plus_zero min_size_octaves)
  lowest-real : T (real binary32 lowest)
  limit-real : T (real binary32 limit)
  lowest-below : T (le lowest plus_zero)
  limit-above : T (le plus_zero limit)
  low : T (real binary32 (div binary32 lowest min_size_octaves))
  high : T (real binary32 (div binary32 limit min_size_octaves))
  low-left : T (real binary32 (sub binary32 (div binary32 lowest min_size_octaves) one))
  high-left : T (real binary32 (sub binary32 (div binary32 limit min_size_octaves) plus_zero))

size-ends : SizeEnds
unfolding of_bits of_fields odd count_trailing_zeros fits neg add sub sum div round size span climb units lt le
size-ends = record { is_real = tt; above = tt; lowest-real = tt; limit-real = tt; lowest-below = tt; limit-above = tt; low = tt; high = tt; low-left = tt; high-left = tt }

module _ (octaves : Float) (p : T (real binary32 octaves)) where
  abbrev taken : Float
  taken = maximum octaves min_size_octaves

  size_is : taken ≡ larger octaves min_size_octaves
  size_is = maximum-larger binary32 octaves min_size_octaves (real-number binary32 octaves p)

  size-real : T (real binary32 taken)
  size-real = rw size_is (go (lt octaves min_size_octaves))
    where
      go : (b : Bool) → T (real binary32 (cond b min_size_octaves octaves))
      go true = size-ends.is_real
      go false = p

  size-least : T (le min_size_octaves taken)
  size-least = rw size_is (larger-right binary32 octaves min_size_octaves (real-number binary32 octaves p) (real-number binary32 min_size_octaves size-ends.is_real))

  size_above : T (lt plus_zero taken)
  size_above =
      lt-of-lt-of-le-f binary32 plus_zero min_size_octaves taken zero_number (real-number binary32 min_size_octaves size-ends.is_real) (real-number binary32 taken size-real) size-ends.above size-least

  -- ---- the logarithm over the size
  abbrev across : Float → Float
  across y = div binary32 y taken

  across-number : (y : Float) → T (real binary32 y) → T (number binary32 (across y))
  across-number y r = div-number binary32 y taken r size-real (above_zero binary32 taken (real-number binary32 taken size-real) size_above).1

  quotient-between : (v : Float) → Between (div binary32 lowest min_size_octaves) (div binary32 limit min_size_octaves) (across (L2 v))
  quotient-between v =
      let e = size-ends in
      let n = across-number (L2 v) (L2-real v) in
      between (div binary32 lowest min_size_octaves) (div binary32 limit min_size_octaves) (across (L2 v)) n e.low e.high
      (le-trans-f binary32 (div binary32 lowest min_size_octaves) (across lowest) (across (L2 v)) (real-number binary32 (div binary32 lowest min_size_octaves) e.low) (across-number lowest e.lowest-real) n
      (div-rises binary32 lowest min_size_octaves taken e.lowest-real e.is_real size-real e.lowest-below e.above size-least)
      (div_mono binary32 lowest (L2 v) taken e.lowest-real (L2-real v) size-real size_above (L2-range v).0))
      (le-trans-f binary32 (across (L2 v)) (across limit) (div binary32 limit min_size_octaves) n (across-number limit e.limit-real) (real-number binary32 (div binary32 limit min_size_octaves) e.high)
      (div_mono binary32 (L2 v) limit taken (L2-real v) e.limit-real size-real size_above (L2-range v).1)
      (div-anti binary32 limit min_size_octaves taken e.limit-real e.is_real size-real e.limit-above e.above size-least))

  -- ---- the place in the cycle
  module _ (phase : Float) (q : T (real binary32 phase)) (v : Float) where
    abbrev place : Float
    place = sub binary32 (across (L2 v)) (rem_euclid_one phase)

    place-real : T (real binary32 place)
    place-real =
        (between-sub (quotient-between v) (in-unit phase q (number_fits binary32 phase (real-number binary32 phase q))) size-ends.low-left size-ends.high-left).is_real

    saw-finite : Level (saw (L2 v) taken (rem_euclid_one phase))
    unfolding saw
    saw-finite = saw-level (rem_euclid_one place) (in-unit place place-real (sub-fits binary32 (across (L2 v)) (rem_euclid_one phase)))

    shape-finite : (shape : MotionShape) → Level (shape_at shape (L2 v) taken (rem_euclid_one phase))
    shape-finite Ripple = ripple-level (L2 v) taken (rem_euclid_one phase)
    shape-finite Harmonic = harmonic-level (L2 v) taken (rem_euclid_one phase)
    shape-finite Drift = drift-level (L2 v) taken (rem_euclid_one phase)
    shape-finite Scan = window-level (L2 v) taken (rem_euclid_one phase)
    shape-finite Notch = notch-level (L2 v) taken (rem_euclid_one phase)
    shape-finite Saw = saw-finite
    shape-finite Sprinkle = rw one-is one-level
    shape-finite Cloud = rw one-is one-level

pub openness-in-unit : (frequency : Float) (config : MotionConfig) → T (real binary32 config.phase) → T (real binary32 config.size_octaves) → Level (openness frequency config)
unfolding openness
openness-in-unit frequency config q p = go (resting frequency config) (shape-finite config.size_octaves p config.phase q _ config.shape)
  where
    go : (b : Bool) {o : Float} → Level o → Level (cond b remainder.one o)
    go true w = rw one-is one-level
    go false w = w
