-- `first_entry_outside` meets its contract: the search from here on finds what the whole search
-- finds. Assumes nothing.
use mathlib.Core.Path.{◌≡◌, sym, ◌∙◌}
use native.Mathlib.Omega.{arith}
use lib.Ieee.{nan}
use lib.ListN.{length}
use Rattle.limits.proofs.Searches.{searched-on, found_here, found_none}
use Rattle.refusals.proofs.first_entry_outside.Goals as goal

pub loop-bin-preserved : goal.loop-bin-preserved
loop-bin-preserved c =
    searched-on nan _ _ _ (omega arith) (sym c.entry_accepted.ensures ∙ c.if-not-entry_accepted.false) c.loop-bin.invariant

pub returns-then-not-entry_accepted : goal.returns-then-not-entry_accepted
returns-then-not-entry_accepted c =
    (found_here nan _ _ _ (omega arith) (sym c.entry_accepted.ensures ∙ c.if-not-entry_accepted.true) c.loop-bin.invariant, omega arith)

pub returns : goal.returns
returns c =
    let end : length c.args.table.now ≡ c.loop-bin.bin = omega arith in
    end ∙ found_none nan _ _ _ (omega arith) c.loop-bin.invariant
