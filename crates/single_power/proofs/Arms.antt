-- What is left for the last arm of a `match` over numbers. Assumes nothing.
use mathlib.Core.Path.{◌≡◌}
use Prim.Native.Nat.{ℕ, zero, suc, ◌≤◌, ◌<◌, zero-le}
use native.Mathlib.Omega.{arith}

-- j is none of the k numbers 0, 1, .. of the arms before
abbrev pub NoneOf : ℕ → ℕ → Type 0
NoneOf zero j = Unit {0}
NoneOf (suc k) j = NoneOf k j × (j ≡ k → ⊥)

next : (k j : ℕ) → k ≤ j → (j ≡ k → ⊥) → suc k ≤ j
next k j l h = omega arith

pub past : (k j : ℕ) → NoneOf k j → k ≤ j
past zero j n = zero-le
past (suc k) j n = next k j (past k j n.0) n.1

top : (j : ℕ) → 31 ≤ j → j < 32 → j ≡ 31
top j a b = omega arith

-- of 32 numbers the last one
pub last : {j : ℕ} → j < 32 → NoneOf 31 j → j ≡ 31
last {j} l n = top j (past 31 j n) l
