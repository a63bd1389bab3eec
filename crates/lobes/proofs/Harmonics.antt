-- A partial's gain is from 0 to 1: the rolloff is not negative, nor is the logarithm of a whole
-- number from 1 on, so the decibels are not above 0. Assumes nothing.
use mathlib.Core.Path.{◌≡◌, refl, sym, ap, ◌∙◌, subst}
use Prim.Native.Nat.{ℕ, ◌≤◌}
use native.Mathlib.Nat.{le_trans}
use lib.Dec.{T, lit≤}
use lib.IntN.{pos}
use lib.Count.{count_trailing_zeros}
use lib.Ieee.{Float, binary32, fits, le, neg, add, sub, sum, mul, round, size, span, climb, units, odd, of_bits, of_fields, of_int}
use lib.Ieee.Fits.{and_i}
use Rattle.float_laws.specs.Units.{number, real, real-number}
use Rattle.float_laws.specs.Order as order
use Rattle.float_laws.specs.Order.{le-trans-f}
use Rattle.float_laws.specs.Round.{plus_zero}
use Rattle.float_laws.specs.Ops.{mul-comm-f, mul-neg}
use Rattle.float_laws.specs.Mono.{add-number, sub_number, sub-mono, mul-number, mul-nonneg, mul-mono-l, le-neg, number-neg}
use Rattle.float_laws.specs.Bounds as bounds
use Rattle.float_laws.specs.Bounds.{real-between}
use Rattle.float_laws.specs.Exact.{real-whole}
use Rattle.float_laws.specs.Rise.{Upto, upto-level}
use Rattle.float32.specs.Order.{clamp}
use Rattle.float32.specs.Remainder.{zero, one, half}
use Rattle.float32.proofs.OrderAgrees.{clamp-agrees}
use Rattle.power.specs.Power.{positive_zero, largest}
use Rattle.power.specs.Log.{least_normal, positive_normal, rounded, L2}
use Rattle.power.proofs.LogRising.{L2-mono}
use Rattle.power.proofs.LogRange.{L2-of-power, L2-real}
use Rattle.decibels.proofs.Gains.{gain-real, gain-nonneg, gain-at-most-one}
use Rattle.pitch.proofs.Range.{whole_le}
use Rattle.lobes.specs.Tone.{timbre_range_db, max_rolloff_db, timbre_rolloff, harmonic_gain}
use Rattle.lobes.proofs.NoteLevels.{zero_is, clamp-unit, at_most_one}

-- ---- what a timbre adds: from -12 to 12 dB, and so finite
record TimbreEnds : Type 0 where
  half-real : T (real binary32 half)
  half-same : T (le half half)
  one-real : T (real binary32 bounds.one)
  low-real : T (real binary32 (sub binary32 half bounds.one))
  high-real : T (real binary32 (sub binary32 half plus_zero))
  range-real : T (real binary32 timbre_range_db)
  range-above : T (le plus_zero timbre_range_db)
  least-real : T (real binary32 (mul binary32 (sub binary32 half bounds.one) timbre_range_db))
  most-real : T (real binary32 (mul binary32 (sub binary32 half plus_zero) timbre_range_db))
  zero-real : T (real binary32 plus_zero)
  max-real : T (real binary32 max_rolloff_db)
  max-above : T (le plus_zero max_rolloff_db)

timbre-ends : TimbreEnds
unfolding of_bits of_fields fits le neg add sub sum mul round size span climb units odd count_trailing_zeros
timbre-ends =
    record {
      half-real = tt;
      half-same = tt;
      one-real = tt;
      low-real = tt;
      high-real = tt;
      range-real = tt;
      range-above = tt;
      least-real = tt;
      most-real = tt;
      zero-real = tt;
      max-real = tt;
      max-above = tt;
    }

module _ (timbre : Float) (p : T (real binary32 timbre)) where
  abbrev away : Float
  away = sub binary32 half (clamp zero one timbre)

  unit : Upto binary32 0 (clamp zero one timbre)
  unit = clamp-unit timbre (real-number binary32 timbre p)

  away-low : T (le (sub binary32 half bounds.one) away)
  away-low = let e = timbre-ends in sub-mono binary32 half half bounds.one (clamp zero one timbre) e.half-real e.half-real e.one-real unit.is_real e.half-same (at_most_one binary32 (clamp zero one timbre) unit)

  away-high : T (le away (sub binary32 half plus_zero))
  away-high = let e = timbre-ends in sub-mono binary32 half half (clamp zero one timbre) plus_zero e.half-real e.half-real unit.is_real e.zero-real e.half-same unit.low

  away-real : T (real binary32 away)
  away-real =
      let e = timbre-ends in
      real-between binary32 (sub binary32 half bounds.one) away (sub binary32 half plus_zero) (sub_number binary32 half (clamp zero one timbre) e.half-real unit.is_real) e.low-real e.high-real away-low away-high

  pub timbre-added-real : T (real binary32 (mul binary32 away timbre_range_db))
  timbre-added-real =
      let e = timbre-ends in
      let lo = sub binary32 half bounds.one in
      let hi = sub binary32 half plus_zero in
      let w = timbre_range_db in
      real-between binary32 (mul binary32 lo w) (mul binary32 away w) (mul binary32 hi w) (mul-number binary32 away w away-real e.range-real) e.least-real e.most-real
      (mul-mono-l binary32 lo away w e.low-real away-real e.range-real e.range-above away-low)
      (mul-mono-l binary32 away hi w away-real e.high-real e.range-real e.range-above away-high)

-- ---- the rolloff
module _ (rolloff timbre : Float) (r : T (real binary32 rolloff)) (p : T (real binary32 timbre)) where
  abbrev raised : Float
  raised = add binary32 rolloff (mul binary32 (sub binary32 half (clamp zero one timbre)) timbre_range_db)

  raised-number : T (number binary32 raised)
  raised-number = add-number binary32 rolloff (mul binary32 (sub binary32 half (clamp zero one timbre)) timbre_range_db) r (timbre-added-real timbre p)

  rolloff-is : timbre_rolloff rolloff timbre ≡ order.clamp plus_zero max_rolloff_db raised
  unfolding timbre_rolloff
  rolloff-is = ap (λ (z : Float). clamp z max_rolloff_db raised) zero_is ∙ clamp-agrees plus_zero max_rolloff_db raised

  pub rolloff-low : T (le plus_zero (timbre_rolloff rolloff timbre))
  rolloff-low =
      let e = timbre-ends in
      rw rolloff-is
      (order.clamp-low binary32 plus_zero max_rolloff_db (real-number binary32 plus_zero e.zero-real) (real-number binary32 max_rolloff_db e.max-real) e.max-above raised raised-number)

  pub rolloff-real : T (real binary32 (timbre_rolloff rolloff timbre))
  rolloff-real =
      let e = timbre-ends in
      let o = real-number binary32 plus_zero e.zero-real in
      let m = real-number binary32 max_rolloff_db e.max-real in
      rw rolloff-is
      (real-between binary32 plus_zero (order.clamp plus_zero max_rolloff_db raised) max_rolloff_db
      (order.clamp-number binary32 plus_zero max_rolloff_db o m e.max-above raised raised-number) e.zero-real e.max-real
      (order.clamp-low binary32 plus_zero max_rolloff_db o m e.max-above raised raised-number)
      (order.clamp-high binary32 plus_zero max_rolloff_db o m e.max-above raised raised-number))

-- ---- the logarithm of a partial's number
log-of-one : L2 (of_int binary32 (pos 1)) ≡ plus_zero
unfolding rounded round size span climb units odd count_trailing_zeros of_int
log-of-one = L2-of-power (of_int binary32 (pos 1)) 126 (lit≤ tt) (refl, refl)

one-normal : T (positive_normal (of_int binary32 (pos 1)))
unfolding of_int round size span climb units odd count_trailing_zeros le
one-normal = tt

most-partials : T (le (of_int binary32 (pos 24)) largest) × T (le least_normal (of_int binary32 (pos 1))) × T (real binary32 least_normal) × T (real binary32 largest)
unfolding of_int round size span climb units odd count_trailing_zeros le fits
most-partials = (tt, tt, tt, tt)

module _ (partial : ℕ) (least : 1 ≤ partial) (most : partial ≤ 24) where
  abbrev number_of : Float
  number_of = of_int binary32 (pos partial)

  partial-real : T (real binary32 number_of)
  partial-real = real-whole binary32 partial (le_trans most (lit≤ tt))

  from_one : T (le (of_int binary32 (pos 1)) number_of)
  from_one = whole_le binary32 1 partial least (le_trans most (lit≤ tt))

  partial-normal : T (positive_normal number_of)
  partial-normal =
      let e = most-partials in
      let n = real-number binary32 number_of partial-real in
      and_i (le least_normal number_of) (le number_of largest)
      (le-trans-f binary32 least_normal (of_int binary32 (pos 1)) number_of (real-number binary32 least_normal e.2) (real-number binary32 (of_int binary32 (pos 1)) (real-whole binary32 1 (lit≤ tt))) n e.1 from_one)
      (le-trans-f binary32 number_of (of_int binary32 (pos 24)) largest n (real-number binary32 (of_int binary32 (pos 24)) (real-whole binary32 24 (lit≤ tt))) (real-number binary32 largest e.3)
      (whole_le binary32 partial 24 most (lit≤ tt)) e.0)

  log-low : T (le plus_zero (L2 number_of))
  log-low = subst (λ (x : Float). T (le x (L2 number_of))) log-of-one (L2-mono (of_int binary32 (pos 1)) number_of one-normal partial-normal from_one)

  -- ---- the gain
  module _ (rolloff : Float) (r : T (real binary32 rolloff)) (low : T (le plus_zero rolloff)) where
    decibels-are : mul binary32 (neg rolloff) (L2 number_of) ≡ neg (mul binary32 (L2 number_of) rolloff)
    decibels-are = mul-comm-f binary32 (neg rolloff) (L2 number_of) ∙ mul-neg binary32 (L2 number_of) rolloff

    minus_zero : T (number binary32 (neg plus_zero)) × T (le (neg plus_zero) positive_zero) × T (number binary32 plus_zero)
    unfolding fits neg le
    minus_zero = (tt, tt, tt)

    decibels-below : T (le (neg (mul binary32 (L2 number_of) rolloff)) positive_zero)
    decibels-below =
        let x = mul binary32 (L2 number_of) rolloff in
        let n = mul-number binary32 (L2 number_of) rolloff (L2-real number_of) r in
        let h = mul-nonneg binary32 (L2 number_of) rolloff (L2-real number_of) r log-low low in
        le-trans-f binary32 (neg x) (neg plus_zero) positive_zero (number-neg binary32 x n) minus_zero.0 minus_zero.2 (le-neg binary32 plus_zero x minus_zero.2 n h) minus_zero.1

    pub harmonic-gain-unit : Upto binary32 0 (harmonic_gain rolloff partial)
    unfolding harmonic_gain
    harmonic-gain-unit =
        let d = mul binary32 (neg rolloff) (L2 number_of) in
        upto-level binary32 _ (gain-real d) (gain-nonneg d) (gain-at-most-one d (subst (λ (x : Float). T (le x positive_zero)) (sym decibels-are) decibels-below))
