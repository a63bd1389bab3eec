-- `value_at` is a part of the way between two entries of R, which never fall (Stepped.antt), so
-- that all of it fits. Assumes nothing.
use mathlib.Core.Path.{ap}
use Prim.Native.Nat.{ℕ, ◌+◌, ◌-◌, ◌*◌, ◌/◌, ◌^◌, ◌≤◌}
use native.Mathlib.Omega.{arith}
use Rattle.sine_rows.proofs.Stepped.{up, product_small, sum_is, sum-small}
use Rattle.sine_rows.proofs.value_at.Goals.{After-entry-b}
use Rattle.sine_rows.proofs.value_at.Goals as goal

module _ (c : After-entry-b) where
  abbrev h : ℕ
  h = c.args.index

  abbrev r : ℕ
  r = c.args.part

  abbrev a : ℕ
  a = c.entry-a.result

  abbrev b : ℕ
  b = c.entry-b.result

pub overflow_sub-result : goal.overflow_sub-result
overflow_sub-result c = up (h c) (r c) (a c) (b c) c.requires.0 c.requires.1 c.entry-a.ensures c.entry-b.ensures

pub overflow_mul-result : goal.overflow_mul-result
overflow_mul-result c = let l = product_small (h c) (r c) (a c) (b c) c.requires.0 c.requires.1 c.entry-a.ensures c.entry-b.ensures in record { fits = omega arith }

small : (c : After-entry-b) → a c + (b c - a c) * r c / 2 ^ 14 ≤ 1073741824
small c = sum-small (h c) (r c) (a c) (b c) c.requires.0 c.requires.1 c.entry-a.ensures c.entry-b.ensures

pub overflow_add-result : goal.overflow_add-result
overflow_add-result c = let l = small c in record { fits = omega arith }

pub overflow_cast-result-2 : goal.overflow_cast-result-2
overflow_cast-result-2 c = let l = small c in omega arith

pub returns : goal.returns
returns c = ap (λ (z : ℕ). z / 64) (sum_is (h c) (r c) (a c) (b c) c.requires.0 c.requires.1 c.entry-a.ensures c.entry-b.ensures)
