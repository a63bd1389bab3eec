-- `limits::slices::search_outside` meets its contract: the search from here on finds what the whole
-- search finds. Assumes nothing.
use mathlib.Core.Path.{◌≡◌, sym, ◌∙◌}
use native.Mathlib.Omega.{arith}
use lib.ListN.{length}
use lib.Ieee.{nan}
use Rattle.limits.proofs.Searches.{searched-on, found_here, found_none}
use Rattle.limits.proofs.slices.search_outside.Goals as goal

pub returns-then-not-in_range : goal.returns-then-not-in_range
returns-then-not-in_range c =
    (found_here nan _ _ _ (omega arith) (sym c.in_range.ensures ∙ c.if-not-in_range.true) c.loop-i.invariant, omega arith)

pub loop-i-preserved : goal.loop-i-preserved
loop-i-preserved c = searched-on nan _ _ _ (omega arith) (sym c.in_range.ensures ∙ c.if-not-in_range.false) c.loop-i.invariant

pub returns : goal.returns
returns c =
    let end : length c.args.xs.now ≡ c.loop-i.i = omega arith in
    end ∙ found_none nan _ _ _ (omega arith) c.loop-i.invariant
