-- `file` meets its contract. Assumes nothing.
use Rattle.answer.proofs.Replies.{number-in-outcome, place-in-outcome}
use Rattle.crossing_mixers.proofs.file.Goals as goal

pub returns : goal.returns
returns c =
    let filed = c.request-outcome.ensures in
    simp (c.number.ensures, number-in-outcome, c.place.ensures, place-in-outcome, filed.outcome_value, filed.mixer_value)
