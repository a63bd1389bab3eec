-- `make_ready` replaces the entries from `start` on: each entry below i is ready. Assumes nothing.
use Prim.Native.Nat.{◌≤◌}
use Rattle.lists.specs.Turned.{Turned}
use Rattle.power_rows.specs.Log2.{ready_of}
use Rattle.power_rows.proofs.log2.make_ready.Given as goal

abbrev pub invariant-loop-i : goal.invariant-loop-i
invariant-loop-i l = Turned (λ i v. ready_of v) l.start l.initial.row l.row l.i × (l.i ≤ l.stop)
