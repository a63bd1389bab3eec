-- `spectral_dsp_c::spectral::dovetable_advance_note_envelopes` gives what the call answers, and
-- leaves the levels as that leaves it. Assumes nothing.
use Rattle.crossing.proofs.Replies.{given, left}
use Rattle.spectral_dsp_c.proofs.spectral.dovetable_advance_note_envelopes.Goals as goal

pub returns : goal.returns
returns c =
    let called = c.advance_bank-outcome.ensures in
    record { given = given called.result_value c.give_outcome.ensures; levels_after = left _ _ called.result_value called.levels_after }
