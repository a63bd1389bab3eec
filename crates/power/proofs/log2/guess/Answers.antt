-- `guess` meets its contract: nothing wraps, since m is below 2 ^ 11, so that each product is below
-- what it is taken from. Assumes nothing.
use mathlib.Core.Path.{◌≡◌}
use native.Mathlib.Omega.{arith}
use native.Mathlib.Nat.{mul-le-mul}
use Prim.Native.Nat.{ℕ, ◌-◌, ◌*◌, ◌/◌, ◌%◌, ◌^◌, ◌≤◌, ◌<◌}
use lib.Bits.{bit_and, and_mask}
use Rattle.power.specs.Stages.{FIRST, SECOND, THIRD, FOURTH}
use Rattle.power.proofs.log2.guess.Goals.{Start}
use Rattle.power.proofs.log2.guess.Goals as goal

times : (m a top : ℕ) → m < 2 ^ 11 → a ≤ top → m * a ≤ 2047 * top
times m a top h l = mul-le-mul {n₁ = m} {m₁ = a} {n₂ = 2047} {m₂ = top} (omega arith) l

module _ (c : Start) where
  -- the eleven leading digits
  abbrev m : ℕ
  m = c.args.t / 2 ^ 19 % 2 ^ 11

  m-is : bit_and (c.args.t / 2 ^ 19) 2047 ≡ m
  m-is = and_mask (c.args.t / 2 ^ 19) 11

  m-lt : m < 2 ^ 11
  m-lt = omega arith

  -- ---- the four products, from the innermost on
  fourth : m * FOURTH ≤ 2047 * FOURTH
  fourth = times m FOURTH FOURTH m-lt (omega arith)

  third : m * (THIRD - m * FOURTH) ≤ 2047 * THIRD
  third = times m (THIRD - m * FOURTH) THIRD m-lt (omega arith)

  second : m * (SECOND - m * (THIRD - m * FOURTH)) ≤ 2047 * SECOND
  second = times m (SECOND - m * (THIRD - m * FOURTH)) SECOND m-lt (omega arith)

  first : m * (FIRST - m * (SECOND - m * (THIRD - m * FOURTH))) ≤ 2047 * FIRST
  first = times m (FIRST - m * (SECOND - m * (THIRD - m * FOURTH))) FIRST m-lt (omega arith)

pub overflow_cast-m : goal.overflow_cast-m
overflow_cast-m c = rw (m-is c) (record { fits = omega arith })

pub overflow_mul-result : goal.overflow_mul-result
overflow_mul-result c = rw (m-is c) (record { fits = let l = fourth c in omega arith })

pub overflow_sub-result : goal.overflow_sub-result
overflow_sub-result c = rw (m-is c) (let l = fourth c in omega arith)

pub overflow_mul-result-2 : goal.overflow_mul-result-2
overflow_mul-result-2 c = rw (m-is c) (record { fits = let l = third c in omega arith })

pub overflow_sub-result-2 : goal.overflow_sub-result-2
overflow_sub-result-2 c = rw (m-is c) (let l = third c in omega arith)

pub overflow_mul-result-3 : goal.overflow_mul-result-3
overflow_mul-result-3 c = rw (m-is c) (record { fits = let l = second c in omega arith })

pub overflow_sub-result-3 : goal.overflow_sub-result-3
overflow_sub-result-3 c = rw (m-is c) (let l = second c in omega arith)

pub overflow_mul-result-4 : goal.overflow_mul-result-4
overflow_mul-result-4 c = rw (m-is c) (record { fits = let l = first c in omega arith })

pub overflow_cast-result : goal.overflow_cast-result
overflow_cast-result c = rw (m-is c) (record { fits = let l = first c in omega arith })

pub returns : goal.returns
returns c = rw (m-is c)
