-- L2 in document 01's words: for a positive normal v = M * 2 ^ (e - 23), M in 2 ^ 23 .. 2 ^ 24 - 1,
-- with F the greatest whose I(F) ≤ 128 * M, it is e + F / 2 ^ 24 rounded once: round
-- ((e * 2 ^ 24 + F) / 2 ^ 24) where e is from 0 up, otherwise -round ((-e * 2 ^ 24 - F) / 2 ^ 24).
-- Of any other v it is +0.
-- In units of 2 ^ -149 v is M * 2 ^ k with k = e + 126, which has k + 24 binary digits. Assumes
-- nothing.
use mathlib.Core.Path.{◌≡◌, sym, ap, ◌∙◌}
use mathlib.Core.Bool.{true, false}
use Prim.Native.Nat.{ℕ, ◌+◌, ◌-◌, ◌*◌, ◌^◌, ◌≤◌, ◌<◌}
use native.Mathlib.Nat.{le_trans, le_of_eq, lt_of_lt_of_le, lt_of_not-le, not-le_of_lt, le_antisymm, mul-div_cancel, mul-le-mul_right}
use native.Mathlib.Omega.{arith}
use lib.Pow.{pow_pos, pow-add, pow_mono, shl_lt}
use lib.Ieee.{Float, binary32, round, size}
use lib.Ieee.Digits.{size-lt, size-le}
use lib.Ieee.Exact.{HasValue}
use borrow.Author.Tests.{lt-ltb, le-ltb}
use Rattle.lists.specs.Interpolation.{interp}
use Rattle.power.specs.Table.{low_bits, P, I}
use Rattle.power.specs.Rules.{Roots}
use Rattle.power.proofs.Rules.{P-rule}
use Rattle.power.specs.Power.{positive_zero}
use Rattle.power.specs.Log.{greatest, positive_normal, rounded, log_at, log_of, L2}
use Rattle.power.proofs.Interpolated.{interp-first}
use Rattle.power.proofs.Greatest.{Greatest, is-greatest}
use Rattle.power.proofs.Normal.{normal, units-are, from-least, to-largest}

-- ---- F is the greatest
pub F-greatest : {k w : ℕ} {p : ℕ → ℕ} → Roots k w p → (t : ℕ) → 2 ^ 30 ≤ t → Greatest (interp w p) t (2 ^ 24) (greatest (interp w p) t (2 ^ 24))
F-greatest {w = w} {p = p} R t h = is-greatest (interp w p) t (2 ^ 24) 0 (pow_pos 24) (le_trans (interp-first R) h)

-- ---- the digits of M * 2 ^ k
module _ (M k : ℕ) (l : 2 ^ 23 ≤ M) (u : M < 2 ^ 24) where
  digits : size (M * 2 ^ k) ≡ k + 24
  digits =
      le_antisymm (size-le (M * 2 ^ k) (k + 24) (lt_of_lt_of_le (shl_lt {a = M} 24 k u) (le_of_eq (ap (λ (z : ℕ). 2 ^ z) (swap k 24)))))
      (let r : k + 23 < size (M * 2 ^ k) = lt_of_not-le (λ (g : size (M * 2 ^ k) ≤ k + 23). not-le_of_lt (size-lt (M * 2 ^ k)) (le_trans (pow_mono g) (le_trans (le_of_eq (ap (λ (z : ℕ). 2 ^ z) (sym (swap k 23)) ∙ pow-add 2 23 k)) (mul-le-mul_right (2 ^ k) l)))) in omega arith)
    where
      swap : (a b : ℕ) → b + a ≡ a + b
      swap a b = omega arith

  past : size (M * 2 ^ k) - 24 ≡ k
  past = rw digits (omega arith)

  log_at-is : (w : ℕ) (p : ℕ → ℕ) → log_at w p (M * 2 ^ k) ≡ rounded (k * 2 ^ 24 + greatest (interp w p) (128 * M) (2 ^ 24))
  unfolding log_at
  log_at-is w p = rw (past, mul-div_cancel M (pow_pos k))

-- ---- rounded once, by the sign
rounded-low : (Y : ℕ) → Y < 126 * 2 ^ 24 → rounded Y ≡ round binary32 true (126 * 2 ^ 24 - Y) (2 ^ 24)
unfolding rounded
rounded-low Y h = rw (lt-ltb Y (126 * 2 ^ 24) h)

rounded-high : (Y : ℕ) → 126 * 2 ^ 24 ≤ Y → rounded Y ≡ round binary32 false (Y - 126 * 2 ^ 24) (2 ^ 24)
unfolding rounded
rounded-high Y h = rw (le-ltb Y (126 * 2 ^ 24) h)

-- ---- the logarithm of v = M * 2 ^ (k - 149)
module _ (v : Float) (M k : ℕ) (l : 2 ^ 23 ≤ M) (u : M < 2 ^ 24) (h : k ≤ 253) (is : HasValue v false (M * 2 ^ k) (2 ^ 149)) where
  pub log_is : (w : ℕ) (p : ℕ → ℕ) → log_of w p v ≡ rounded (k * 2 ^ 24 + greatest (interp w p) (128 * M) (2 ^ 24))
  unfolding log_of
  log_is w p = rw (normal v (M * 2 ^ k) is (from-least M k l u h) (to-largest M k l u h), units-are v (M * 2 ^ k) is) (log_at-is M k l u w p)

  pub L2-F-lt : greatest I (128 * M) (2 ^ 24) < 2 ^ 24
  L2-F-lt = (F-greatest P-rule (128 * M) (omega arith)).under

  pub L2-is : L2 v ≡ rounded (k * 2 ^ 24 + greatest I (128 * M) (2 ^ 24))
  unfolding L2
  L2-is = log_is low_bits P

  pub L2-from-one : 126 ≤ k → L2 v ≡ round binary32 false ((k - 126) * 2 ^ 24 + greatest I (128 * M) (2 ^ 24)) (2 ^ 24)
  L2-from-one g =
      L2-is ∙ rounded-high (k * 2 ^ 24 + greatest I (128 * M) (2 ^ 24)) (omega arith)
      ∙ ap (λ (z : ℕ). round binary32 false z (2 ^ 24)) (same (greatest I (128 * M) (2 ^ 24)))
    where
      same : (F : ℕ) → k * 2 ^ 24 + F - 126 * 2 ^ 24 ≡ (k - 126) * 2 ^ 24 + F
      same F = omega arith

  pub L2-below-one : k < 126 → L2 v ≡ round binary32 true ((126 - k) * 2 ^ 24 - greatest I (128 * M) (2 ^ 24)) (2 ^ 24)
  L2-below-one g =
      let f = L2-F-lt in
      L2-is ∙ rounded-low (k * 2 ^ 24 + greatest I (128 * M) (2 ^ 24)) (omega arith)
      ∙ ap (λ (z : ℕ). round binary32 true z (2 ^ 24)) (same (greatest I (128 * M) (2 ^ 24)))
    where
      same : (F : ℕ) → 126 * 2 ^ 24 - (k * 2 ^ 24 + F) ≡ (126 - k) * 2 ^ 24 - F
      same F = omega arith

pub L2-elsewhere : (v : Float) → positive_normal v ≡ false → L2 v ≡ positive_zero
unfolding L2 log_of
L2-elsewhere v e = rw e
