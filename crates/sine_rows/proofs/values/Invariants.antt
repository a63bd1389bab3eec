-- `values` replaces the first `count` indexes: each entry below k is the value that `value_at`
-- ensures of its step. Assumes nothing.
use Prim.Native.Nat.{◌≤◌}
use lib.ListN.{get_or}
use Rattle.lists.specs.Turned.{Turned}
use Rattle.sine.specs.Rows.{value_at}
use Rattle.sine_rows.proofs.values.Given as goal

abbrev pub invariant-loop-k : goal.invariant-loop-k
invariant-loop-k l = Turned (λ k index. value_at index (get_or l.parts k 0)) 0 l.initial.indexes l.indexes l.k × (l.k ≤ l.count)
