-- The rules of K and R, in document 01's words. That the two tables keep them is shown in
-- proofs/Rules.antt. Assumes nothing.
use Rattle.std.specs.Prelude.{◌≡◌, List, ℕ, ◌+◌, ◌*◌, ◌/◌, ◌^◌, ◌≤◌, ◌<◌, length, get_or}
use Rattle.sine.specs.Table.{K}

-- r is the greatest whole number whose square is at most n
abbrev pub IsRoot : ℕ → ℕ → Type 0
IsRoot r n = (r * r ≤ n) × (n < (r + 1) * (r + 1))

-- 'K[0] = 0; K[i+1] is the greatest whole number whose square is at most (2^30+K[i])·2^29, up to
-- K[8]'
pub record RuleOfK (table : List ℕ) : Type 0 where
  pub entries : length table ≡ 9
  pub first : get_or table 0 0 ≡ 0
  pub next : (i : ℕ) → i < 8 → IsRoot (get_or table (i + 1) 0) ((2 ^ 30 + get_or table i 0) * 2 ^ 29)

-- 'R has 257 entries: R[0] = 0, R[256] = 2^30, and the middle of a span a..b of width 256/2^s, s in
-- 0..7, is floor((R[a]+R[b])·2^29/K[s+1])':
-- span i of a width starts at i times the width
pub record RuleOfR (table : List ℕ) : Type 0 where
  pub entries : length table ≡ 257
  pub first : get_or table 0 0 ≡ 0
  pub last : get_or table 256 0 ≡ 2 ^ 30
  pub middle : (s i : ℕ) → s < 8 → i < 2 ^ s
      → let width = 256 / 2 ^ s in get_or table (i * width + width / 2) 0 ≡ (get_or table (i * width) 0 + get_or table ((i + 1) * width) 0) * 2 ^ 29 / K (s + 1)
