-- `remove` meets its contract: the open call. Assumes nothing.
use Rattle.crossing_banks.proofs.remove.Goals as goal

pub returns : goal.returns
returns c =
    let removed = c.remove_voice-outcome.ensures in
    simp (c.plain_banked.ensures, removed.outcome_value, removed.bank_value)
