-- E2 between its ends, in document 01's words: with X = floor (x * 2 ^ 24), n = floor (X / 2 ^ 24)
-- and F = X mod 2 ^ 24 it is floor (I(F) / 128) * 2 ^ (n - 23), as a fraction of whole numbers
-- (`HasValue y s a c` says that y is a / c, negative where s is true). Assumes nothing.
use mathlib.Core.Path.{◌≡◌, sym, ap, ◌∙◌, subst}
use mathlib.Core.Bool.{Bool, true, false, not}
use Prim.Native.Nat.{ℕ, suc, ◌+◌, ◌-◌, ◌*◌, ◌/◌, ◌%◌, ◌^◌, ◌≤◌, ◌<◌}
use native.Mathlib.Nat.{le_antisymm, le_of_suc-le-suc, mul_assoc, mul_right_comm, mul-one, suc-mul, mul-le-mul_right, mul-add-div_right, div-mul-le_self, div-lt_iff_lt-mul, le-div_iff_mul-le, eq_of_mul-eq-mul_right}
use native.Mathlib.Omega.{arith}
use lib.Dec.{T}
use lib.Pow.{pow_pos, pow-add}
use lib.IntN.{ℤ, pos}
use lib.Ieee.{Float, nan, inf, fin, up, down, odd, le, lt, is_nan}
use lib.Ieee.Exact.{HasValue, odd_sign}
use lib.Ieee.Fits.{down_pos}
use Rattle.float_laws.specs.Signs.{ord-of-le, sub-mul}
use Rattle.float32.specs.Value.{moved}
use Rattle.power.specs.Table.{I}
use Rattle.power.specs.Power.{E2, lowest, limit}
use Rattle.power.proofs.Made.{at_mid}
use Rattle.power.proofs.Ends.{high-of-le, under-of-lt, pos-high}

-- ---- one value, two fractions
same-value : (x : Float) (s : Bool) (a c b d : ℕ) → 0 < c → a * d ≡ b * c → HasValue x s a c → HasValue x s b d
same-value nan s a c b d z e v = v
same-value (inf t) s a c b d z e v = v
same-value (fin t m g) s a c b d z e v = (
  v.0,
  eq_of_mul-eq-mul_right c z (m * up g * d) (b * down g)
      (mul_right_comm (m * up g) d c ∙ ap (λ (y : ℕ). y * d) v.1 ∙ mul_right_comm a (down g) d ∙ ap (λ (y : ℕ). y * down g) e ∙ mul_right_comm b c (down g)),
)

module _ (x : Float) (f : T (not (is_nan x))) (l : 2 * 2 ^ 24 ≤ moved 128 x) (u : moved 128 x < 256 * 2 ^ 24) (F k : ℕ) (hF : moved 128 x % 2 ^ 24 ≡ F) (hk : moved 128 x / 2 ^ 24 - 2 ≡ k) where
  value : (a c : ℕ) → 2 ^ k * c ≡ a * 2 ^ 149 → HasValue (E2 x) false (I F / 128 * a) c
  value a c e =
      same-value (E2 x) false (I F / 128 * 2 ^ k) (2 ^ 149) (I F / 128 * a) c (pow_pos 149)
      (mul_assoc (I F / 128) (2 ^ k) c ∙ ap (λ (z : ℕ). I F / 128 * z) e ∙ sym (mul_assoc (I F / 128) a (2 ^ 149)))
      (subst (λ (y : Float). HasValue y false (I F / 128 * 2 ^ k) (2 ^ 149)) (sym made) (odd_sign 24 false (I F / 128) k 149))
    where
      made : E2 x ≡ odd 24 false (I F / 128) k 149
      made = at_mid x f (omega arith) (omega arith) ∙ ap (λ (z : ℕ). odd 24 false (I z / 128) (moved 128 x / 2 ^ 24 - 2) 149) hF ∙ ap (λ (z : ℕ). odd 24 false (I F / 128) z 149) hk

-- ---- x = a / b from 0 up: X is floor (a * 2 ^ 24 / b)
module _ (m : ℕ) (e : ℤ) where
  abbrev X : ℕ
  X = m * up e * 2 ^ 24 / down e

  moved_up : moved 128 (fin false m e) ≡ 128 * 2 ^ 24 + X
  unfolding moved
  moved_up = mul-add-div_right (down_pos e) (128 * 2 ^ 24) (m * up e * 2 ^ 24)

  pub E2-of-positive : T (lt (fin false m e) limit) → HasValue (E2 (fin false m e)) false (I (X % 2 ^ 24) / 128 * 2 ^ (X / 2 ^ 24)) (2 ^ 23)
  unfolding is_nan
  E2-of-positive h =
      let y = moved_up in
      value (fin false m e) tt (pos-high m e) (under-of-lt (fin false m e) h) (X % 2 ^ 24) (X / 2 ^ 24 + 126) (omega arith) (omega arith) (2 ^ (X / 2 ^ 24)) (2 ^ 23)
      (ap (λ (z : ℕ). z * 2 ^ 23) (pow-add 2 (X / 2 ^ 24) 126) ∙ mul_assoc (2 ^ (X / 2 ^ 24)) (2 ^ 126) (2 ^ 23))

-- ---- x = -a / b: X is -Z with Z the ceiling of a * 2 ^ 24 / b, so that n is -j with j the ceiling
-- of Z / 2 ^ 24, and F is j * 2 ^ 24 - Z
abbrev pub ceiling : ℕ → ℕ → ℕ
ceiling a b = (a + b - 1) / b

module _ (C a b : ℕ) (z : 0 < b) (h : a ≤ C * b) where
  -- a ≤ c * b < a + b for the ceiling c
  above-a : a ≤ ceiling a b * b
  above-a = let t = (div-lt_iff_lt-mul {k = b} {x = a + b - 1} {y = suc (ceiling a b)} z).0 (omega arith) in let s = suc-mul (ceiling a b) b in omega arith

  within_b : ceiling a b * b < a + b
  within_b = let t = div-mul-le_self (a + b - 1) b in omega arith

  ceiling-le : ceiling a b ≤ C
  ceiling-le = le_of_suc-le-suc ((div-lt_iff_lt-mul {k = b} {x = a + b - 1} {y = suc C} z).1 (let s = suc-mul C b in omega arith))

  floor-down : (C * b - a) / b ≡ C - ceiling a b
  floor-down =
      let s : (C - ceiling a b) * b ≡ C * b - ceiling a b * b = sub-mul C (ceiling a b) b in
      let p = suc-mul (C - ceiling a b) b in
      let q = above-a in
      let r = within_b in
      let t : ceiling a b * b ≤ C * b = mul-le-mul_right b ceiling-le in
      le_antisymm (le_of_suc-le-suc ((div-lt_iff_lt-mul {k = b} {x = C * b - a} {y = suc (C - ceiling a b)} z).1 (omega arith))) ((le-div_iff_mul-le z).1 (omega arith))

module _ (m : ℕ) (e : ℤ) where
  abbrev Z : ℕ
  Z = ceiling (m * up e * 2 ^ 24) (down e)

  abbrev j : ℕ
  j = ceiling Z (2 ^ 24)

  moved_down : m * up e ≤ 126 * down e → (moved 128 (fin true m e) ≡ 128 * 2 ^ 24 - Z) × (Z ≤ 126 * 2 ^ 24)
  unfolding moved
  moved_down h = (floor-down (128 * 2 ^ 24) (m * up e * 2 ^ 24) (down e) (down_pos e) (omega arith), ceiling-le (126 * 2 ^ 24) (m * up e * 2 ^ 24) (down e) (down_pos e) (omega arith))

  pub E2-of-negative : T (le lowest (fin true m e)) → HasValue (E2 (fin true m e)) false (I (j * 2 ^ 24 - Z) / 128) (2 ^ (23 + j))
  unfolding is_nan
  E2-of-negative h =
      let y = moved_down (let g = ord-of-le true 63 (pos 1) true m e h in omega arith) in
      subst (λ (a : ℕ). HasValue (E2 (fin true m e)) false a (2 ^ (23 + j))) (mul-one (I (j * 2 ^ 24 - Z) / 128))
      (value (fin true m e) tt (high-of-le (fin true m e) h).1 (omega arith) (j * 2 ^ 24 - Z) (126 - j) (omega arith) (omega arith) 1 (2 ^ (23 + j))
      (sym (pow-add 2 (126 - j) (23 + j)) ∙ ap (λ (z : ℕ). 2 ^ z) (let w : 126 - j + (23 + j) ≡ 149 = omega arith in w)))
