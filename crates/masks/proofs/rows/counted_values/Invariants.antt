-- `counted_values` replaces the first `count` entries: each entry below k is what it counts as,
-- which is never a NaN. Assumes nothing.
use Prim.Native.Nat.{◌-◌, ◌≤◌}
use Rattle.lists.specs.Turned.{Turned}
use Rattle.masks.specs.Counted.{counted_as}
use Rattle.masks.proofs.rows.counted_values.Given as goal

abbrev pub invariant-loop-k : goal.invariant-loop-k
invariant-loop-k l = Turned (λ k db. counted_as db) 0 l.initial.row l.row l.k × (l.k ≤ l.count)
