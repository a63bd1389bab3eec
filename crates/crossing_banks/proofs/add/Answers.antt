-- `add` meets its contract: the open call on the voice of the record. Assumes nothing.
use Rattle.crossing_banks.proofs.add.Goals as goal

pub returns : goal.returns
returns c =
    let added = c.add_voice-outcome.ensures in
    simp (c.plain_banked.ensures, added.outcome_value, added.bank_value, c.from.ensures)
