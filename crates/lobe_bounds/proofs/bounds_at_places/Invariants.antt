-- `bounds_at_places` replaces the first `count` entries: each entry below p is the bound at the
-- position that was there. Assumes nothing.
use Prim.Native.Nat.{◌≤◌}
use lib.ListN.{get_or}
use lib.Ieee.{nan}
use Rattle.lists.specs.Turned.{Turned}
use Rattle.lobe_bounds.specs.Bound.{bound_at}
use Rattle.lobe_bounds.proofs.bounds_at_places.Given as goal

abbrev pub invariant-loop-p : goal.invariant-loop-p
invariant-loop-p l = Turned (λ p place. bound_at (get_or l.strengths p nan) place) 0 l.initial.bounds l.bounds l.p × (l.p ≤ l.count)
