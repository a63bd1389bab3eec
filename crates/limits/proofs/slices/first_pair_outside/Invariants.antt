-- `limits::slices::first_pair_outside` meets its contract: the search from here on finds what the
-- whole search finds, and a place is good where both entries are. Assumes nothing.
use mathlib.Core.Bool.{Bool, ◌&&◌}
use mathlib.Core.List.{List}
use Prim.Native.Nat.{ℕ}
use lib.ListN.{get_or}
use lib.Ieee.{Float, nan}
use Rattle.float32.specs.Order.{within}
use Rattle.limits.proofs.Searches.{Searched}
use Rattle.limits.proofs.slices.first_pair_outside.Given as goal

abbrev pub inside : List Float → Float → Float → ℕ → Float → Bool
inside ys lo hi k x = within lo hi x && within lo hi (get_or ys k nan)

abbrev pub invariant-loop-i : goal.invariant-loop-i
invariant-loop-i l = Searched nan (inside l.ys l.lo l.hi) l.xs l.i
