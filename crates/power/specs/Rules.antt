-- The rule of P: it has 1,025 entries, and entry j is the greatest whole number whose 1,024th power
-- is at most 2 ^ (30720 + j). That the table keeps it is shown in proofs/Rules.antt. Assumes nothing.
use Rattle.std.specs.Prelude.{◌≡◌, ℕ, suc, ◌+◌, ◌*◌, ◌^◌, ◌≤◌, ◌<◌}

-- x is the greatest whole number with x ^ n ≤ 2 ^ (30 * n + j): entry j of a table of n steps. Here
-- n is 1,024, and 30 * n is 30720
pub record Root (n j x : ℕ) : Type 0 where
  pub most : x ^ n ≤ 2 ^ (30 * n + j)
  pub more : 2 ^ (30 * n + j) < suc x ^ n

-- p is such a table of 2 ^ k steps, for an F of k high and w low bits
pub record Roots (k w : ℕ) (p : ℕ → ℕ) : Type 0 where
  pub bits : k + w ≡ 24
  pub root : (j : ℕ) → j ≤ 2 ^ k → Root (2 ^ k) j (p j)
