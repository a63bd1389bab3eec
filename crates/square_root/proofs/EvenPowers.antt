-- A number above zero by its digits and a power of four: the leading zeros say how far the digits
-- move up, and one place more makes the exponent even. Assumes nothing.
use mathlib.Core.Path.{◌≡◌, sym, ap, ◌∙◌}
use Prim.Native.Nat.{ℕ, suc, ◌+◌, ◌-◌, ◌*◌, ◌/◌, ◌%◌, ◌^◌, ◌≤◌, ◌<◌}
use native.Mathlib.Nat.{mul_assoc, le_trans, le_of_eq, lt_of_lt_of_le, mul-le-mul, mul-le-mul_right, mul-lt-mul_of_pos_right, not-le_of_lt, lt_of_not-le, mod-eq_of_lt}
use native.Mathlib.Omega.{arith}
use lib.Count.{count_leading_zeros, leading_top}
use lib.Pow.{pow_pos, pow-add, pow_mono}
use Rattle.square_root.specs.Root.{ByFours}
use Rattle.square_root.proofs.WholeRoot.{four-is-square}

module _ (mant expo : ℕ) (positive : 0 < mant) (small : mant < 16777216) (least : expo ≤ 253) where
  abbrev pub zeros : ℕ
  zeros = count_leading_zeros 32 mant

  -- moved up by the zeros above it, mant has 24 places
  record Lead : Type 0 where
    place : ℕ
    whole : zeros + suc place ≡ 32
    under : 2 ^ place ≤ mant
    over : mant < 2 ^ suc place

  lead : Lead
  lead = let t = leading_top 32 mant positive (omega (arith, small)) in record { place = t.0; whole = t.1; under = t.2; over = t.3 }

  place-below : lead.place < 24
  place-below = lt_of_not-le (λ (g : 24 ≤ lead.place). not-le_of_lt small (le_trans (pow_mono {i = 24} g) lead.under))

  pub zeros-least : 8 ≤ zeros
  zeros-least = omega (arith, lead.whole, place-below)

  pub zeros-most : zeros ≤ 31
  zeros-most = omega (arith, lead.whole)

  abbrev up : ℕ
  up = zeros - 8

  moved-least : 8388608 ≤ mant * 2 ^ up
  moved-least = le_trans (le_of_eq (ap (λ (z : ℕ). 2 ^ z) sum ∙ pow-add 2 lead.place up)) (mul-le-mul_right (2 ^ up) lead.under)
    where
      sum : 23 ≡ lead.place + up
      sum = omega (arith, lead.whole, zeros-least)

  moved-most : mant * 2 ^ up ≤ 16777215
  moved-most = let l : mant * 2 ^ up < 16777216 = lt_of_lt_of_le (mul-lt-mul_of_pos_right lead.over (pow_pos up)) (le_of_eq (sym (pow-add 2 (suc lead.place) up) ∙ ap (λ (z : ℕ). 2 ^ z) sum)) in omega (arith, l)
    where
      sum : suc lead.place + up ≡ 24
      sum = omega (arith, lead.whole, zeros-least)

  -- the exponent that is left, and how far the digits move
  abbrev pub rest : ℕ
  rest = expo + 126 - up

  abbrev pub shift : ℕ
  shift = up + 23 + rest % 2

  moved-is : mant * 2 ^ shift ≡ mant * 2 ^ up * 2 ^ (23 + rest % 2)
  moved-is = ap (λ (z : ℕ). mant * 2 ^ z) sum ∙ ap (λ (z : ℕ). mant * z) (pow-add 2 up (23 + rest % 2)) ∙ sym (mul_assoc mant (2 ^ up) (2 ^ (23 + rest % 2)))
    where
      sum : shift ≡ up + (23 + rest % 2)
      sum = omega arith

  digits-least : 70368744177664 ≤ mant * 2 ^ shift
  digits-least = le_trans (mul-le-mul moved-least (pow_mono {i = 23} (omega arith))) (le_of_eq (sym moved-is))

  digits-most : mant * 2 ^ shift ≤ 281474959933440
  digits-most =
      let b : 2 ^ (23 + rest % 2) ≤ 16777216 = pow_mono {i = 23 + rest % 2} {j = 24} (omega arith) in
      let m : mant * 2 ^ up * 2 ^ (23 + rest % 2) ≤ 16777215 * 16777216 = mul-le-mul moved-most b in
      le_trans (le_of_eq moved-is) m

  digits-kept : mant * 2 ^ shift % 18446744073709551616 ≡ mant * 2 ^ shift
  digits-kept = mod-eq_of_lt (omega (arith, digits-most))

  together : shift + (rest / 2 + rest / 2) ≡ expo + 149
  together = omega (arith, zeros-most)

  fours-few : rest / 2 ≤ 189
  fours-few = omega (arith, least)

  value-is : mant * 2 ^ expo * 2 ^ 149 ≡ mant * 2 ^ shift * 4 ^ (rest / 2)
  value-is =
      mul_assoc mant (2 ^ expo) (2 ^ 149) ∙ ap (λ (z : ℕ). mant * z) (sym (pow-add 2 expo 149) ∙ ap (λ (z : ℕ). 2 ^ z) (sym together) ∙ pow-add 2 shift (rest / 2 + rest / 2))
      ∙ sym (mul_assoc mant (2 ^ shift) (2 ^ (rest / 2 + rest / 2))) ∙ ap (λ (z : ℕ). mant * 2 ^ shift * z) (pow-add 2 (rest / 2) (rest / 2) ∙ sym (four-is-square (rest / 2)))

  pub by-fours : ByFours (mant * 2 ^ expo * 2 ^ 149) (mant * 2 ^ shift % 18446744073709551616) (rest / 2)
  by-fours = rw digits-kept record { value = value-is; least = digits-least; most = digits-most; few = fours-few }
