-- The bell lies in 0..1: the place of a number in the table lies in 0..1,024, the part of a step
-- past its left entry in 0..1, and a line from an entry toward one that is not above it stays
-- between 0 and that entry, also rounded. Assumes nothing.
use mathlib.Core.Path.{◌≡◌, refl, sym, subst}
use mathlib.Core.Bool.{false}
use Prim.Native.Nat.{ℕ, suc, ◌+◌, ◌*◌, ◌^◌, ◌≤◌, min}
use native.Mathlib.Nat.{le_trans, min-eq_left}
use native.Mathlib.Omega.{arith}
use lib.Dec.{T, lit≤}
use lib.IntN.{pos}
use lib.Count.{count_trailing_zeros}
use lib.Ieee.{Float, binary32, prec, low, of_bits, of_int, mul, sub, le, lt, eq, fits, round, size, span, climb, units, odd}
use Rattle.float_laws.specs.Units.{mag, number}
use Rattle.float_laws.specs.Order as order
use Rattle.float_laws.specs.Round.{plus_zero}
use Rattle.float_laws.specs.Mono.{sizes}
use Rattle.float_laws.specs.Inf.{mul-by, mul-by-number}
use Rattle.float_laws.specs.Bounds as bounds
use Rattle.float_laws.specs.Bounds.{real-between}
use Rattle.float_laws.specs.Range.{toward, toward-lower-nonneg, toward-lower-most, toward-lower-real}
use Rattle.float_laws.specs.Rise.{Upto}
use Rattle.counts.specs.Counts.{floor_count}
use Rattle.float32.specs.Order.{clamp}
use Rattle.float32.specs.Remainder.{zero}
use Rattle.counts.proofs.CountBounds.{count-to-1024}
use Rattle.gaussian.specs.Table.{gaussian_lut_steps, G}
use Rattle.gaussian.specs.Bell.{gaussian_max_relative_squared, steps_per_square, last_place, Place, position, between, gaussian}
use Rattle.gaussian.proofs.Fraction.{fraction-nonneg, fraction-at-most-one, fraction-real}
use Rattle.gaussian.proofs.Entries.{no_nan, G-upto, right-falls}

-- ---- the place
pub place-of : (square : Float) → T (number binary32 square) → Place (position square)
unfolding position clamp of_bits mul round size span climb units odd count_trailing_zeros fits le lt eq
place-of square p =
    let ends : T (le zero gaussian_max_relative_squared) = tt in
    let c = order.clamp zero gaussian_max_relative_squared square in
    let n = order.clamp-number binary32 zero gaussian_max_relative_squared tt tt ends square p in
    let l = order.clamp-low binary32 zero gaussian_max_relative_squared tt tt ends square p in
    let h = order.clamp-high binary32 zero gaussian_max_relative_squared tt tt ends square p in
    let l' : T (le plus_zero (mul binary32 c steps_per_square)) = mul-by binary32 steps_per_square tt zero c l in
    let h' : T (le (mul binary32 c steps_per_square) last_place) = mul-by binary32 steps_per_square tt c gaussian_max_relative_squared h in
    record { is_real = real-between binary32 plus_zero (mul binary32 c steps_per_square) last_place (mul-by-number binary32 steps_per_square tt c (no_nan binary32 c n)) tt tt l' h'; low = l'; high = h' }

-- ---- the line there
module _ (place : Float) (w : Place place) where
  abbrev left : ℕ
  left = floor_count place

  pub left-most : floor_count place ≤ gaussian_lut_steps
  left-most = count-to-1024 false place w.high

  abbrev right : ℕ
  right = min (left + 1) gaussian_lut_steps

  abbrev fraction : Float
  fraction = sub binary32 place (of_int binary32 (pos left))

  small : suc left ≤ 2 ^ prec binary32
  small = omega (arith, left-most)

  last-size : mag binary32 last_place ≤ 18446744073709551615 * 2 ^ low binary32
  unfolding of_bits mag
  last-size = lit≤ tt

  pub room : mag binary32 place ≤ 18446744073709551615 * 2 ^ low binary32
  unfolding of_bits fits
  room = le_trans (sizes binary32 place last_place w.is_real tt w.low w.high).0 last-size

  line : between place ≡ toward binary32 (G left) (G right) fraction
  unfolding between
  line = rw (min-eq_left left-most) refl

  left-upto : Upto binary32 0 (G left)
  left-upto = G-upto left left-most

  right-upto : Upto binary32 0 (G right)
  right-upto = G-upto right (omega arith)

  fraction-low : T (le plus_zero fraction)
  fraction-low = fraction-nonneg binary32 place w.is_real w.low small room

  fraction-high : T (le fraction bounds.one)
  fraction-high = fraction-at-most-one binary32 place w.is_real w.low small room

  most : T (le (toward binary32 (G left) (G right) fraction) (G left))
  most =
      toward-lower-most binary32 (G left) (G right) fraction left-upto.is_real right-upto.is_real (fraction-real binary32 place w.is_real w.low small room)
      right-upto.low (right-falls left left-most) fraction-low fraction-high

  upto : Upto binary32 0 (toward binary32 (G left) (G right) fraction)
  upto =
      let a = left-upto in
      let b = right-upto in
      let t = fraction-real binary32 place w.is_real w.low small room in
      let falls = right-falls left left-most in
      let r = toward-lower-real binary32 (G left) (G right) fraction a.is_real b.is_real t b.low falls fraction-low fraction-high in
      let l = toward-lower-nonneg binary32 (G left) (G right) fraction a.is_real b.is_real t b.low falls fraction-low fraction-high in
      record { is_real = r; low = l; high = le_trans (sizes binary32 (toward binary32 (G left) (G right) fraction) (G left) r a.is_real l most).0 a.high }

  -- never above the entry on its left
  pub between-at-most : T (le (between place) (G left))
  between-at-most = subst (λ (x : Float). T (le x (G left))) (sym line) most

  pub between-in-unit : Upto binary32 0 (between place)
  between-in-unit = subst (Upto binary32 0) (sym line) upto

-- infinities too; of a NaN it is NaN
pub gaussian-in-unit : (square : Float) → T (number binary32 square) → Upto binary32 0 (gaussian square)
gaussian-in-unit square p = between-in-unit (position square) (place-of square p)
