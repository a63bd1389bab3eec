-- `first_entry_outside` meets its contract: the search from here on finds what the whole search
-- finds. Assumes nothing.
use lib.Ieee.{nan}
use Rattle.limits.proofs.Searches.{Searched}
use Rattle.refusals.specs.Masks.{entry_accepted}
use Rattle.refusals.proofs.first_entry_outside.Given as goal

abbrev pub invariant-loop-bin : goal.invariant-loop-bin
invariant-loop-bin l = Searched nan entry_accepted l.table l.bin
