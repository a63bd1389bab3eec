-- The entry on the left of a place by the bits of place + 2 ^ 23, which count whole steps: less 1
-- where the sum was rounded up. Assumes nothing.
use mathlib.Core.Path.{◌≡◌, refl, sym, ap, ◌∙◌}
use mathlib.Core.Bool.{Bool, true, false, not, cond}
use Prim.Native.Nat.{ℕ, ◌+◌, ◌-◌, ◌*◌, ◌/◌, ◌%◌, ◌^◌, ◌≤◌, ◌<◌}
use native.Mathlib.Nat.{le_trans, le_of_eq, le_of_lt, min-eq_left, mod-lt, div-add-mod', mod-eq_of_lt, add-mul-mod_self_right}
use native.Mathlib.Omega.{arith}
use mir.Val.{bool_byte}
use lib.Bits.{bit_and, and_mask}
use lib.Dec.{T, lit≤}
use lib.Ieee.{Float, binary32, fits, is_nan, lt, le, add, sub, of_bits, to_bits}
use Rattle.float_laws.specs.Units.{real-number}
use Rattle.float_laws.specs.Order.{le-trans-f}
use Rattle.float_laws.specs.Power.{power}
use Rattle.float_laws.specs.Steps.{number-no-nan, whole-real-32, whole-floor-32}
use Rattle.counts.specs.Counts.{floor_count}
use Rattle.gaussian.specs.Bell.{last_place, Place, index_of}
use Rattle.gaussian.proofs.Fraction.{floor-by-size}
use Rattle.gaussian.proofs.InUnit.{left-most, room}

byte-is : (b : Bool) → bool_byte b ≡ cond b 1 0
byte-is true = refl
byte-is false = refl

pub low-bits-most : (n : ℕ) → bit_and n 8388607 ≤ 2 ^ 24
low-bits-most n = le_trans (le_of_eq (and_mask n 23)) (le_trans (le_of_lt (mod-lt n (lit≤ tt))) (lit≤ tt))

-- taking away what was rounded up takes it from the low digits alone
module _ (n m q u : ℕ) (z : 0 < m) (e : n % m ≡ q + u) where
  under : u ≤ n
  under = omega (arith, div-add-mod' n m)

  lowered : (n - u) % m ≡ q
  lowered =
      let w : n - u ≡ q + n / m * m = omega (arith, div-add-mod' n m) in
      let h : q < m = omega (arith, mod-lt n z) in
      ap (λ (k : ℕ). k % m) w ∙ add-mul-mod_self_right q (n / m) m ∙ mod-eq_of_lt h

module _ (place : Float) (w : Place place) where
  abbrev sum : Float
  sum = add binary32 place (power 23)

  abbrev up : ℕ
  up = bool_byte (lt place (sub binary32 sum (power 23)))

  small : T (le place (power 22))
  unfolding of_bits fits le
  small = le-trans-f binary32 place last_place (power 22) (real-number binary32 place w.is_real) tt tt w.high tt

  pub sum-no-nan : T (not (is_nan sum))
  sum-no-nan = number-no-nan binary32 sum (real-number binary32 sum (whole-real-32 place w.is_real w.low small))

  counted : to_bits binary32 sum % 2 ^ 23 ≡ floor_count place + up
  counted = whole-floor-32 place w.is_real w.low small ∙ ap (λ (k : ℕ). k + cond (lt place (sub binary32 sum (power 23))) 1 0) (sym (floor-by-size binary32 place w.is_real w.low (room place w))) ∙ ap (λ (k : ℕ). floor_count place + k) (sym (byte-is (lt place (sub binary32 sum (power 23)))))

  pub up_fits : up ≤ to_bits binary32 sum
  up_fits = under (to_bits binary32 sum) (2 ^ 23) (floor_count place) up (lit≤ tt) counted

  pub index_is : bit_and (to_bits binary32 sum - up) 8388607 ≡ index_of place
  index_is =
      and_mask (to_bits binary32 sum - up) 23
      ∙ lowered (to_bits binary32 sum) (2 ^ 23) (floor_count place) up (lit≤ tt) counted
      ∙ sym (min-eq_left (left-most place w))
