-- What the table's rule says of its entries, for any number of steps n: they never fall, and lie
-- from 2 ^ 30 to 2 ^ 31. A number is below another where its power is.
-- Assumes nothing.
use mathlib.Core.Path.{◌≡◌, sym, ap, ◌∙◌}
use Prim.Native.Nat.{ℕ, zero, suc, ◌+◌, ◌*◌, ◌^◌, ◌≤◌, ◌<◌, zero-le}
use native.Mathlib.Nat.{le_trans, le_of_eq, lt_of_lt_of_le, lt_of_le_of_lt, lt_of_not-le, not-le_of_lt, le_of_suc-le-suc, le_of_lt, pow-le-pow_left, pow-lt-pow_left, pow-zero, pow-suc, mul-zero, mul-suc}
use native.Mathlib.Omega.{arith}
use lib.Dec.{lit<}
use lib.Pow.{pow-add, pow_mono, pow-lt}
use Rattle.power.specs.Rules.{Root}

pow-mul : (a m n : ℕ) → (a ^ m) ^ n ≡ a ^ (m * n)
pow-mul a m zero = pow-zero (a ^ m) ∙ sym (ap (λ (k : ℕ). a ^ k) (mul-zero m) ∙ pow-zero a)
pow-mul a m (suc n) = pow-suc (a ^ m) n ∙ ap (λ (k : ℕ). k * a ^ m) (pow-mul a m n) ∙ sym (pow-add a (m * n) m) ∙ ap (λ (k : ℕ). a ^ k) (sym (mul-suc m n))

root-lt : (x y n : ℕ) → x ^ n < y ^ n → x < y
root-lt x y n h = lt_of_not-le (λ (g : y ≤ x). not-le_of_lt h (pow-le-pow_left g n))

positive : {n : ℕ} → 0 < n → n ≡ zero → ⊥
positive h e = omega arith

module _ (n : ℕ) (p : ℕ → ℕ) (rule : (j : ℕ) → j ≤ n → Root n j (p j)) where
  pub entries-never-fall : (i j : ℕ) → i ≤ j → j ≤ n → p i ≤ p j
  entries-never-fall i j h l =
      le_of_suc-le-suc (root-lt (p i) (suc (p j)) n
      (lt_of_le_of_lt (rule i (le_trans h l)).most (lt_of_le_of_lt (pow_mono {i = 30 * n + i} {j = 30 * n + j} (omega arith)) (rule j l).more)))

  pub entry-low : (j : ℕ) → j ≤ n → 2 ^ 30 ≤ p j
  entry-low j l =
      le_of_suc-le-suc (root-lt (2 ^ 30) (suc (p j)) n
      (lt_of_le_of_lt (le_of_eq (pow-mul 2 30 n)) (lt_of_le_of_lt (pow_mono {i = 30 * n} {j = 30 * n + j} (omega arith)) (rule j l).more)))

  pub entry-high : (j : ℕ) → j < n → p j < 2 ^ 31
  entry-high j l =
      root-lt (p j) (2 ^ 31) n
      (lt_of_le_of_lt (rule j (le_of_lt l)).most (lt_of_lt_of_le (pow-lt {i = 30 * n + j} {j = 31 * n} (omega arith)) (le_of_eq (sym (pow-mul 2 31 n)))))

  pub entry_top : (j : ℕ) → 0 < n → j ≤ n → p j ≤ 2 ^ 31
  entry_top j z l =
      le_of_suc-le-suc (root-lt (p j) (suc (2 ^ 31)) n
      (lt_of_le_of_lt (rule j l).most (lt_of_le_of_lt (pow_mono {i = 30 * n + j} {j = 31 * n} (omega arith)) (lt_of_le_of_lt (le_of_eq (sym (pow-mul 2 31 n))) (pow-lt-pow_left {a = 2 ^ 31} {b = suc (2 ^ 31)} (lit< tt) (λ e. positive z e))))))

  pub entry_first : 0 < n → p 0 ≤ 2 ^ 30
  entry_first z =
      le_of_suc-le-suc (root-lt (p 0) (suc (2 ^ 30)) n
      (lt_of_le_of_lt (rule 0 zero-le).most (lt_of_le_of_lt (pow_mono {i = 30 * n + 0} {j = 30 * n} (omega arith)) (lt_of_le_of_lt (le_of_eq (sym (pow-mul 2 30 n))) (pow-lt-pow_left {a = 2 ^ 30} {b = suc (2 ^ 30)} (lit< tt) (λ e. positive z e))))))
