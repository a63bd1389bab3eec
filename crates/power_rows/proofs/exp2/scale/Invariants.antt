-- `scale` replaces the first `count` entries: each entry below k is its product with the factor.
-- Assumes nothing.
use Prim.Native.Nat.{◌≤◌}
use lib.Ieee.{binary32, mul}
use Rattle.lists.specs.Turned.{Turned}
use Rattle.power_rows.proofs.exp2.scale.Given as goal

abbrev pub invariant-loop-k : goal.invariant-loop-k
invariant-loop-k l = Turned (λ k y. mul binary32 y l.factor) 0 l.initial.row l.row l.k × (l.k ≤ l.count)
