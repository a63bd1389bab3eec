-- `none_outside` meets its contract: while nothing was counted, the search from here on finds what
-- the whole search finds. Assumes nothing.
use mathlib.Core.Path.{◌≡◌}
use Prim.Native.Nat.{◌≤◌}
use lib.Ieee.{nan}
use Rattle.limits.proofs.Searches.{Searched}
use Rattle.refusals.specs.Masks.{entry_accepted}
use Rattle.refusals.proofs.none_outside.Given as goal

abbrev pub invariant-loop-bin : goal.invariant-loop-bin
invariant-loop-bin l = (l.outside ≤ l.bin) × (l.outside ≡ 0 → Searched nan entry_accepted l.table l.bin)
