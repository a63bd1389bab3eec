-- `take_logs` replaces the entries from `start` on: each entry below i is its logarithm. Assumes
-- nothing.
use Prim.Native.Nat.{◌+◌, ◌≤◌}
use Rattle.lists.specs.Turned.{Turned}
use Rattle.power.specs.Log.{L2}
use Rattle.power_rows.proofs.log2.take_logs.Given as goal

abbrev pub invariant-loop-i : goal.invariant-loop-i
invariant-loop-i l = Turned (λ i v. L2 v) l.start l.initial.row l.row l.i × (l.i ≤ l.start + l.count)
