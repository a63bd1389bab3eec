-- `halve` replaces the first `count` numbers: each entry below k is the smaller of the two, and the
-- others, among them all that are still to be read, are as they were. Assumes nothing.
use Prim.Native.Nat.{◌+◌, ◌≤◌}
use lib.ListN.{get_or}
use lib.Ieee.{nan}
use Rattle.lists.specs.Turned.{Turned}
use Rattle.float_laws.specs.Order.{smaller}
use Rattle.blocks.proofs.rows.halve.Given as goal

abbrev pub invariant-loop-k : goal.invariant-loop-k
invariant-loop-k l = Turned (λ k held. smaller held (get_or l.initial.row (k + l.count) nan)) 0 l.initial.row l.row l.k × (l.k ≤ l.count)
