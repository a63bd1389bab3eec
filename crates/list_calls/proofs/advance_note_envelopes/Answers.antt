-- `advance_note_envelopes` meets its contract: the copy that it lends is the bank that it hands
-- back. Assumes nothing.
use mathlib.Core.Path.{◌≡◌}
use lib.ListN.{length}
use borrow.Author.Rules.{rules}
use Rattle.list_calls.proofs.Banks.{by_value}
use Rattle.list_calls.proofs.advance_note_envelopes.Goals as goal

pub returns : goal.returns
returns c =
    let a = c.args in
    let l : length a.levels ≡ 128 = search rules in
    let h : length a.held ≡ 16 = search rules in
    by_value a.levels c.advance_bank-outcome.new.levels a.held a.elapsed_seconds a.fade_ms c.advance_bank-outcome.result l h c.advance_bank-outcome.ensures.result_value c.advance_bank-outcome.ensures.levels_after
