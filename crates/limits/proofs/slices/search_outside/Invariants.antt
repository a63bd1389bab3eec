-- `limits::slices::search_outside` meets its contract: the search from here on finds what the whole
-- search finds. Assumes nothing.
use mathlib.Core.Bool.{Bool}
use Prim.Native.Nat.{ℕ}
use lib.Ieee.{Float, nan}
use Rattle.float32.specs.Order.{within}
use Rattle.limits.proofs.Searches.{Searched}
use Rattle.limits.proofs.slices.search_outside.Given as goal

abbrev pub inside : Float → Float → ℕ → Float → Bool
inside lo hi k x = within lo hi x

abbrev pub invariant-loop-i : goal.invariant-loop-i
invariant-loop-i l = Searched nan (inside l.lo l.hi) l.xs l.i
