-- `copy_row` replaces the first `count` numbers: each entry below k is the slice's. Assumes
-- nothing.
use Prim.Native.Nat.{◌+◌, ◌≤◌}
use lib.ListN.{get_or}
use lib.Ieee.{nan}
use Rattle.lists.specs.Turned.{Turned}
use Rattle.blocks.proofs.rows.copy_row.Given as goal

abbrev pub invariant-loop-k : goal.invariant-loop-k
invariant-loop-k l = Turned (λ k held. get_or l.from (l.start + k) nan) 0 l.initial.row l.row l.k × (l.k ≤ l.count)
