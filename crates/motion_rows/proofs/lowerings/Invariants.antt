-- `lowerings` replaces the first `count` entries: each entry below k is in decibels. Assumes
-- nothing.
use Prim.Native.Nat.{◌≤◌}
use Rattle.lists.specs.Turned.{Turned}
use Rattle.motion_rows.specs.Rows.{lowered}
use Rattle.motion_rows.proofs.lowerings.Given as goal

abbrev pub invariant-loop-k : goal.invariant-loop-k
invariant-loop-k l = Turned (λ k opened. lowered l.depth_db opened) 0 l.initial.row l.row l.k × (l.k ≤ l.count)
