-- The emphasis is from 1 to 2 and the floor from 0 to 1, so that the emphasis less the floor is
-- never negative. The position of a width is a clamp and lies in 0..1; smoothstep keeps it there;
-- so the decibels are from 0 to 6 and those of the floor at most 0, and gains never fall. Assumes
-- nothing.
use mathlib.Core.Path.{◌≡◌, refl}
use mathlib.Core.Bool.{Bool, true, false, not, cond}
use lib.Dec.{T, lit≤}
use lib.IntN.{pos}
use lib.Count.{count_trailing_zeros}
use lib.Ieee.{Float, nan, inf, fin, binary32, le, lt, is_nan, of_bits, fits, sub, mul, div, neg, add, sum, round, size, span, climb, units, odd}
use lib.Ieee.Positive.{positive}
use Rattle.float_laws.specs.Units.{number, real, real-number}
use Rattle.float_laws.specs.Order as order
use Rattle.float_laws.specs.Order.{le-trans-f, lt-of-lt-of-le-f}
use Rattle.float_laws.specs.Round.{plus_zero}
use Rattle.float_laws.specs.Mono.{sub-mono, sub_number, mul-nonneg, le-neg, number-neg}
use Rattle.float_laws.specs.Bounds as bounds
use Rattle.float_laws.specs.Bounds.{real-one, real-between, sub-nonneg, mul-le-left}
use Rattle.float_laws.specs.Inf.{div-by-number, positive-above}
use Rattle.float32.specs.Order.{maximum}
use Rattle.float32.specs.Remainder.{zero}
use Rattle.float32.proofs.OrderAgrees.{maximum-nan-first, maximum-larger}
use Rattle.power.specs.Power.{positive_zero}
use Rattle.power.specs.Log.{rounded, L2}
use Rattle.power.proofs.LogRising.{L2-mono}
use Rattle.power.proofs.LogRange.{L2-of-power, L2-number, L2-real}
use Rattle.decibels.proofs.Gains.{six, two, gain-at-least-one, gain-at-most-one, gain-at-most-two, gain-nonneg, gain-real}
use Rattle.float32.specs.Smoothstep.{smoothstep}
use Rattle.masks.specs.Gates.{narrow_cents, wide_ratio, width_position, emphasis_gain, floor_gain}
use Rattle.float32.proofs.InUnit.{InUnit, zero_is, clamp-in-unit, one_less}
use Rattle.float32.proofs.Smoothstep.{smoothstep-in-unit}

-- ---- log2 of 12 is at least that of 8, which is 3
eight : Float
eight = fin false 1 (pos 3)

log-8 : L2 eight ≡ fin false 3 (pos 0)
unfolding eight rounded round size span climb units odd count_trailing_zeros
log-8 = L2-of-power eight 129 (lit≤ tt) (refl, refl)

log-12-from : T (le (fin false 3 (pos 0)) (L2 wide_ratio))
unfolding eight of_bits le
log-12-from = rw log-8 at (L2-mono eight wide_ratio tt tt tt)

log-12-positive : T (positive (L2 wide_ratio))
unfolding fits lt
log-12-positive = positive-above binary32 (L2 wide_ratio) (L2-real wide_ratio) (lt-of-lt-of-le-f binary32 plus_zero (fin false 3 (pos 0)) (L2 wide_ratio) tt tt (L2-number wide_ratio) tt log-12-from)

-- ---- the position, of every width
not-nan : (x : Float) → T (number binary32 x) → T (not (is_nan x))
unfolding is_nan
not-nan nan p = p
not-nan (inf s) p = tt
not-nan (fin s m e) p = tt

octaves-number : (b : Bool) (v : Float) → T (number binary32 (cond b zero (div binary32 (L2 v) (L2 wide_ratio))))
unfolding of_bits fits
octaves-number true v = tt
octaves-number false v = div-by-number binary32 (L2 wide_ratio) log-12-positive (L2 v) (not-nan (L2 v) (L2-number v))

pub position-in-unit : (width : Float) → InUnit (width_position width)
unfolding width_position
position-in-unit width = clamp-in-unit _ (octaves-number (le width narrow_cents) (div binary32 width narrow_cents))

-- ---- the emphasis, of every width
module _ (s : Float) (u : InUnit s) where
  abbrev decibels : Float
  decibels = mul binary32 six (sub binary32 bounds.one s)

  decibels-low : T (le positive_zero decibels)
  unfolding fits le
  decibels-low = let n = one_less s u in mul-nonneg binary32 six (sub binary32 bounds.one s) tt n.finite tt n.low

  decibels-high : T (le decibels six)
  unfolding fits le
  decibels-high = let n = one_less s u in mul-le-left binary32 six (sub binary32 bounds.one s) tt n.finite tt n.low n.high

module _ (width : Float) where
  step : InUnit (smoothstep (width_position width))
  step = smoothstep-in-unit (width_position width) (position-in-unit width)

  pub emphasis-at-least-one : T (le bounds.one (emphasis_gain width))
  unfolding emphasis_gain of_bits
  emphasis-at-least-one = gain-at-least-one _ (decibels-low (smoothstep (width_position width)) step)

  pub emphasis-at-most-two : T (le (emphasis_gain width) two)
  unfolding emphasis_gain of_bits
  emphasis-at-most-two = gain-at-most-two _ (decibels-high (smoothstep (width_position width)) step)

  pub emphasis-real : T (real binary32 (emphasis_gain width))
  unfolding emphasis_gain
  emphasis-real = gain-real _

-- ---- the floor, of every depth
below-zero : (x : Float) → T (number binary32 x) → T (le plus_zero x) → T (le (neg x) positive_zero)
unfolding fits neg le
below-zero x p h = le-trans-f binary32 (neg x) (neg plus_zero) positive_zero (number-neg binary32 x p) tt tt (le-neg binary32 plus_zero x tt p h) tt

from_zero : (depth : Float) → T (fits binary32 depth) → T (number binary32 (maximum depth zero)) × T (le plus_zero (maximum depth zero))
unfolding fits le
from_zero nan h = rw (maximum-nan-first, zero_is) (tt, tt)
from_zero (inf s) h = rw (maximum-larger binary32 (inf s) zero tt, zero_is) (order.larger-number binary32 (inf s) plus_zero tt tt, order.larger-right binary32 (inf s) plus_zero tt tt)
from_zero (fin s m e) h = rw (maximum-larger binary32 (fin s m e) zero h, zero_is) (order.larger-number binary32 (fin s m e) plus_zero h tt, order.larger-right binary32 (fin s m e) plus_zero h tt)

module _ (depth : Float) where
  pub floor-nonneg : T (le plus_zero (floor_gain depth))
  unfolding floor_gain
  floor-nonneg = gain-nonneg _

  pub floor-real : T (real binary32 (floor_gain depth))
  unfolding floor_gain
  floor-real = gain-real _

  pub floor-at-most-one : T (fits binary32 depth) → T (le (floor_gain depth) bounds.one)
  unfolding floor_gain
  floor-at-most-one h = let z = from_zero depth h in gain-at-most-one _ (below-zero (maximum depth zero) z.0 z.1)

-- ---- so what opening a note adds is never negative
module _ (depth width : Float) (h : T (fits binary32 depth)) where
  floor-below-emphasis : T (le (floor_gain depth) (emphasis_gain width))
  floor-below-emphasis =
      le-trans-f binary32 (floor_gain depth) bounds.one (emphasis_gain width) (real-number binary32 (floor_gain depth) (floor-real depth)) (real-number binary32 bounds.one (real-one binary32)) (real-number binary32 (emphasis_gain width) (emphasis-real width))
      (floor-at-most-one depth h)
      (emphasis-at-least-one width)

  pub lift-nonneg : T (le plus_zero (sub binary32 (emphasis_gain width) (floor_gain depth)))
  lift-nonneg = sub-nonneg binary32 (emphasis_gain width) (floor_gain depth) (emphasis-real width) (floor-real depth) floor-below-emphasis

  lift-number : T (number binary32 (sub binary32 (emphasis_gain width) (floor_gain depth)))
  lift-number = sub_number binary32 (emphasis_gain width) (floor_gain depth) (emphasis-real width) (floor-real depth)

  pub lift-at-most-two : T (le (sub binary32 (emphasis_gain width) (floor_gain depth)) two)
  unfolding fits sub neg add sum round size span climb units odd count_trailing_zeros
  lift-at-most-two = sub-mono binary32 (emphasis_gain width) two (floor_gain depth) plus_zero (emphasis-real width) tt (floor-real depth) tt (emphasis-at-most-two width) (floor-nonneg depth)

  pub lift-real : T (real binary32 (sub binary32 (emphasis_gain width) (floor_gain depth)))
  unfolding fits
  lift-real = real-between binary32 plus_zero (sub binary32 (emphasis_gain width) (floor_gain depth)) two lift-number tt tt lift-nonneg lift-at-most-two
