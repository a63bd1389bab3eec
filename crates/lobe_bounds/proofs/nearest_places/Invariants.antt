-- `nearest_places` replaces the first `count` entries: each entry below p is the place of the least
-- distance. Assumes nothing.
use Prim.Native.Nat.{◌≤◌}
use lib.ListN.{get_or}
use lib.Ieee.{nan}
use Rattle.lists.specs.Turned.{Turned}
use Rattle.lobe_bounds.specs.Bound.{nearest_place}
use Rattle.lobe_bounds.proofs.nearest_places.Given as goal

abbrev pub invariant-loop-p : goal.invariant-loop-p
invariant-loop-p l = Turned (λ p held. nearest_place l.width (get_or l.centers p nan) (get_or l.peaks p nan) l.low l.high) 0 l.initial.places l.places l.p × (l.p ≤ l.count)
