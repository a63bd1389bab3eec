-- `angles` replaces the first `count` entries: each entry below k is the angle of its place.
-- Assumes nothing.
use Prim.Native.Nat.{◌≤◌}
use lib.Ieee.{binary32, mul, sub, div}
use Rattle.lists.specs.Turned.{Turned}
use Rattle.float32.specs.Constants.{tau}
use Rattle.motion_rows.proofs.shapes.angles.Given as goal

abbrev pub invariant-loop-k : goal.invariant-loop-k
invariant-loop-k l = Turned (λ k x. mul binary32 tau (sub binary32 (div binary32 x l.size) l.phase)) 0 l.initial.row l.row l.k × (l.k ≤ l.count)
