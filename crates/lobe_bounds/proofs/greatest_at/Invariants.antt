-- `greatest_at` finds the greatest: none of the numbers below p is above the one at the index that
-- it keeps. Assumes nothing.
use mathlib.Core.Path.{◌≡◌}
use Prim.Native.Nat.{◌≤◌}
use lib.ListN.{get_or}
use lib.Ieee.{nan}
use Rattle.lobe_bounds.specs.Bound.{GreatestAt}
use Rattle.lobe_bounds.proofs.greatest_at.Given as goal

abbrev pub invariant-loop-p : goal.invariant-loop-p
invariant-loop-p l = GreatestAt l.bounds l.p l.place × ((l.greatest ≡ get_or l.bounds l.place nan) × (l.p ≤ l.count))
