-- The whole part of a square root: the definition gives it, and a loop that tries a binary digit at
-- a time, from the highest down, finds it.
-- Each step is one comparison of squares. Assumes nothing.
use mathlib.Core.Path.{◌≡◌, refl, sym, ap, ◌∙◌, subst}
use mathlib.Core.Bool.{Bool, true, false, not, cond}
use Prim.Native.Nat.{ℕ, zero, suc, ◌+◌, ◌-◌, ◌*◌, ◌/◌, ◌%◌, ◌^◌, ◌≤◌, ◌<◌}
use native.Mathlib.Nat.{add-mul, mul-add, mul-suc, suc-mul, one-mul, pow-suc, le_trans, le_of_eq, lt_of_lt_of_le, mul-le-mul, mul-le-mul_right, mul-mul-mul_comm, div-lt_iff_lt-mul}
use native.Mathlib.Decide.{dec_le}
use native.Mathlib.Omega.{arith}
use lib.Dec.{T, leb, leb→le, nleb→lt, lit<}
use lib.Pow.{pow_pos, pow_mono, shl_exact}
use lib.Ieee.{size}
use lib.Ieee.Digits.{size-lt}
use Rattle.square_root.specs.Root.{IsRoot, root_below, whole_root}

-- ---- squares
pub square-of-next : (r : ℕ) → suc r * suc r ≡ r * r + 2 * r + 1
square-of-next r = let a = suc-mul r (suc r) in let b = mul-suc r r in omega arith

pub square-of-twice : (r : ℕ) → 2 * r * (2 * r) ≡ 4 * (r * r)
square-of-twice r = mul-mul-mul_comm 2 r 2 r

pub square-of-odd : (r : ℕ) → (2 * r + 1) * (2 * r + 1) ≡ 4 * (r * r) + 4 * r + 1
square-of-odd r =
    let a : (2 * r + 1) * (2 * r + 1) ≡ 2 * r * (2 * r + 1) + 1 * (2 * r + 1) = add-mul (2 * r) 1 (2 * r + 1) in
    let b : 2 * r * (2 * r + 1) ≡ 2 * r * (2 * r) + 2 * r * 1 = mul-add (2 * r) (2 * r) 1 in
    let c = square-of-twice r in
    omega arith

-- squares are in the order of their roots
pub root-lt : (a b : ℕ) → a * a < b * b → a < b
root-lt a b h = elim (dec_le b a) [ yes l ↦ absurd (omega (arith, mul-le-mul l l)) | no g ↦ omega arith ]

pub at-most-root : (n r z : ℕ) → IsRoot n r → z * z ≤ n → z ≤ r
at-most-root n r z h k = let l = root-lt z (suc r) (omega (arith, h.over)) in omega arith

pub above_root : (n r z : ℕ) → IsRoot n r → n < z * z → r < z
above_root n r z h k = root-lt r z (omega (arith, h.under))

-- ---- the definition gives it
next-digit : (n r : ℕ) → IsRoot (n / 4) r → IsRoot n (cond (leb ((2 * r + 1) * (2 * r + 1)) n) (2 * r + 1) (2 * r))
next-digit n r i = go (leb ((2 * r + 1) * (2 * r + 1)) n) (leb→le ((2 * r + 1) * (2 * r + 1)) n) (nleb→lt ((2 * r + 1) * (2 * r + 1)) n)
  where
    go : (b : Bool) → (T b → (2 * r + 1) * (2 * r + 1) ≤ n) → (T (not b) → n < (2 * r + 1) * (2 * r + 1)) → IsRoot n (cond b (2 * r + 1) (2 * r))
    go true x y = record { under = x tt; over = omega (arith, i.over, square-of-next r, square-of-next (2 * r + 1), square-of-odd r) }
    go false x y = record { under = omega (arith, i.under, square-of-twice r); over = omega (arith, y tt, square-of-odd r, square-of-next (2 * r), square-of-twice r) }

root-below : (k n : ℕ) → n < 4 ^ k → IsRoot n (root_below k n)
unfolding root_below
root-below zero n h = record { under = omega arith; over = omega arith }
root-below (suc k) n h = next-digit n (root_below k (n / 4)) (root-below k (n / 4) ((div-lt_iff_lt-mul (lit< tt)).1 (subst (λ (z : ℕ). n < z) (pow-suc 4 k) h)))

pub four-is-square : (k : ℕ) → 4 ^ k ≡ 2 ^ k * 2 ^ k
four-is-square zero = refl
four-is-square (suc k) = pow-suc 4 k ∙ ap (λ (z : ℕ). z * 4) (four-is-square k) ∙ mul-mul-mul_comm (2 ^ k) (2 ^ k) 2 2 ∙ ap (λ (z : ℕ). z * z) (sym (pow-suc 2 k))

pub whole-root-is : (n : ℕ) → IsRoot n (whole_root n)
unfolding whole_root
whole-root-is n =
    root-below (size n) n
    (lt_of_lt_of_le (size-lt n) (le_trans (le_of_eq (sym (one-mul (2 ^ size n)))) (le_trans (mul-le-mul_right (2 ^ size n) (pow_pos (size n))) (le_of_eq (sym (four-is-square (size n)))))))

-- ---- the loop: r holds the digits found, from the place k up
pub record DigitsFrom (k n r : ℕ) : Type 0 where
  pub few : k ≤ 24
  pub under : r * r ≤ n
  pub over : n < (r + 2 ^ k) * (r + 2 ^ k)

pub no-digits : (n : ℕ) → n < 281474976710656 → DigitsFrom 24 n 0
no-digits n h = record { few = omega arith; under = omega arith; over = h }

pub all_digits : (n r : ℕ) → DigitsFrom 0 n r → IsRoot n r
all_digits n r d = record { under = d.under; over = subst (λ (z : ℕ). n < z * z) next d.over }
  where
    next : r + 1 ≡ suc r
    next = omega arith

module _ (k n r : ℕ) (small : n < 281474976710656) (some : 0 < k) (d : DigitsFrom k n r) where
  twice : 2 ^ k ≡ 2 ^ (k - 1) * 2
  twice = ap (λ (z : ℕ). 2 ^ z) there ∙ pow-suc 2 (k - 1)
    where
      there : k ≡ suc (k - 1)
      there = omega (arith, some)

  place-small : 2 ^ (k - 1) ≤ 8388608
  place-small = pow_mono {i = k - 1} {j = 23} (omega (arith, d.few))

  pub digit-is : 1 * 2 ^ (k - 1) % 18446744073709551616 ≡ 2 ^ (k - 1)
  digit-is = shl_exact {a = 1} 1 (k - 1) 64 (lit< tt) (omega (arith, d.few)) ∙ one-mul (2 ^ (k - 1))

  pub digits-small : r < 16777216
  digits-small = root-lt r 16777216 (omega (arith, small, d.under))

  abbrev pub tried : ℕ
  tried = r + 1 * 2 ^ (k - 1) % 18446744073709551616

  tried-is : tried ≡ r + 2 ^ (k - 1)
  tried-is = ap (λ (z : ℕ). r + z) digit-is

  pub tried-small : tried < 33554432
  tried-small = omega (arith, tried-is, digits-small, place-small)

  pub tried-square-small : tried * tried < 1125899906842624
  tried-square-small = let a : tried ≤ 33554431 = omega (arith, tried-small) in omega (arith, mul-le-mul a a)

  pub digit_set : tried * tried ≤ n → DigitsFrom (k - 1) n tried
  digit_set h = record { few = omega (arith, d.few); under = h; over = subst (λ (z : ℕ). n < z * z) same d.over }
    where
      same : r + 2 ^ k ≡ tried + 2 ^ (k - 1)
      same = omega (arith, twice, tried-is)

  pub digit_clear : n < tried * tried → DigitsFrom (k - 1) n r
  digit_clear h = record { few = omega (arith, d.few); under = d.under; over = subst (λ (z : ℕ). n < z * z) tried-is h }
