-- `change` meets its contract: the open call on the voice of the record. Assumes nothing.
use Rattle.crossing_banks.proofs.change.Goals as goal

pub returns : goal.returns
returns c =
    let changed = c.change_voice-outcome.ensures in
    simp (c.plain_banked.ensures, changed.outcome_value, changed.bank_value, c.from.ensures)
