-- `plain_banked` meets its contract. Assumes nothing.
use Rattle.answer.proofs.Replies.{number-in-outcome, place-in-outcome}
use Rattle.crossing_banks.proofs.plain_banked.Goals as goal

pub returns : goal.returns
returns c = simp (c.number.ensures, number-in-outcome, c.place.ensures, place-in-outcome)
