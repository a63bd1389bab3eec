-- `moved_up` meets its contract: the entries passed have their followers' strips. Assumes nothing.
use Prim.Native.Nat.{◌+◌, ◌≤◌}
use lib.ListN.{get_or}
use Rattle.lists.specs.Turned.{Turned}
use Rattle.mixer.proofs.moved_up.Given as goal

abbrev pub invariant-loop-i : goal.invariant-loop-i
invariant-loop-i l =
    Turned (λ k x. get_or l.strips (k + 1) 0) 0 l.strips l.moved l.i × (l.i ≤ l.last)
