-- `move_row` replaces the first `count` entries: each entry below k is multiplied by the field's
-- compensated gain. Assumes nothing.
use Prim.Native.Nat.{◌≤◌}
use lib.Ieee.{nan, binary32, mul}
use Rattle.lists.specs.Turned.{Turned}
use lib.ListN.{get_or}
use Rattle.bin_gains.proofs.move_row.Given as goal

abbrev pub invariant-loop-k : goal.invariant-loop-k
invariant-loop-k l = Turned (λ k held. mul binary32 held (mul binary32 (get_or l.field k nan) l.compensation)) 0 l.initial.row l.row l.k × (l.k ≤ l.count)
