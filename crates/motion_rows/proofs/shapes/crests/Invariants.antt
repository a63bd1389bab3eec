-- `crests` replaces the first `count` entries: each entry below k is moved to 0..1. Assumes
-- nothing.
use Prim.Native.Nat.{◌≤◌}
use lib.Ieee.{binary32, add, mul}
use Rattle.lists.specs.Turned.{Turned}
use Rattle.float32.specs.Order.{clamp}
use Rattle.float32.specs.Remainder.{zero, one, half}
use Rattle.motion_rows.proofs.shapes.crests.Given as goal

abbrev pub invariant-loop-k : goal.invariant-loop-k
invariant-loop-k l = Turned (λ k wave. clamp zero one (add binary32 half (mul binary32 half wave))) 0 l.initial.row l.row l.k × (l.k ≤ l.count)
