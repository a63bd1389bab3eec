-- `complements` replaces the first `count` entries: each entry below k is 1 less what it was.
-- Assumes nothing.
use Prim.Native.Nat.{◌≤◌}
use lib.Ieee.{binary32, sub}
use Rattle.lists.specs.Turned.{Turned}
use Rattle.float32.specs.Remainder.{one}
use Rattle.motion_rows.proofs.shapes.complements.Given as goal

abbrev pub invariant-loop-k : goal.invariant-loop-k
invariant-loop-k l = Turned (λ k x. sub binary32 one x) 0 l.initial.row l.row l.k × (l.k ≤ l.count)
