-- The f32 values in 0..1: 0 and 1 are two, a clamp to 0..1 gives one, and so does 1 less one. The
-- test of the limits 0..1 passes them. Assumes nothing.
use Rattle.std.proofs.Common.{◌≡◌, T, refl}
use lib.Count.{count_trailing_zeros}
use lib.Ieee.{Float, binary32, le, of_bits, fits, sub, neg, add, sum, round, size, span, climb, units, odd}
use lib.Ieee.Fits.{and_i}
use Rattle.float_laws.specs.Units.{number, real}
use Rattle.float_laws.specs.Order as order
use Rattle.float_laws.specs.Order.{le-refl-f}
use Rattle.float_laws.specs.Round.{plus_zero}
use Rattle.float_laws.specs.Mono.{sub-mono, sub_number}
use Rattle.float_laws.specs.Bounds as bounds
use Rattle.float_laws.specs.Bounds.{real-one, real-between, sub-nonneg}
use Rattle.float32.specs.Order.{clamp, within}
use Rattle.float32.specs.Remainder.{zero, one}
use Rattle.float32.proofs.OrderAgrees.{clamp-agrees}

pub record InUnit (p : Float) : Type 0 where
  pub finite : T (real binary32 p)
  pub low : T (le plus_zero p)
  pub high : T (le p bounds.one)

-- a number that two comparisons put there
pub in-unit : (p : Float) → T (number binary32 p) → T (le plus_zero p) → T (le p bounds.one) → InUnit p
unfolding fits
in-unit p n a b = record { finite = real-between binary32 plus_zero p bounds.one n tt tt a b; low = a; high = b }

pub zero-in-unit : InUnit plus_zero
unfolding fits le
zero-in-unit = record { finite = tt; low = tt; high = tt }

pub one-in-unit : InUnit bounds.one
unfolding fits le
one-in-unit = record { finite = tt; low = tt; high = tt }

pub unit-within : (x : Float) → InUnit x → T (within zero one x)
unfolding of_bits within
unit-within x u = and_i (le zero x) (le x one) u.low u.high

-- ---- a clamp
pub zero_is : zero ≡ plus_zero
unfolding of_bits
zero_is = refl

one-is : one ≡ bounds.one
unfolding of_bits
one-is = refl

clamped : (x : Float) → T (number binary32 x) → InUnit (order.clamp plus_zero bounds.one x)
unfolding fits
clamped x p =
    let o = bounds.one-nonneg in
    in-unit (order.clamp plus_zero bounds.one x) (order.clamp-number binary32 plus_zero bounds.one tt tt o x p) (order.clamp-low binary32 plus_zero bounds.one tt tt o x p)
    (order.clamp-high binary32 plus_zero bounds.one tt tt o x p)

pub clamp-in-unit : (x : Float) → T (number binary32 x) → InUnit (clamp zero one x)
clamp-in-unit x p = rw (zero_is, one-is, clamp-agrees) (clamped x p)

-- ---- 1 less one
pub one_less : (s : Float) → InUnit s → InUnit (sub binary32 bounds.one s)
unfolding sub neg add sum round size span climb units odd count_trailing_zeros fits
one_less s u =
    in-unit (sub binary32 bounds.one s) (sub_number binary32 bounds.one s (real-one binary32) u.finite) (sub-nonneg binary32 bounds.one s (real-one binary32) u.finite u.high)
    (sub-mono binary32 bounds.one bounds.one s plus_zero (real-one binary32) (real-one binary32) u.finite tt (le-refl-f binary32 bounds.one tt) u.low)
