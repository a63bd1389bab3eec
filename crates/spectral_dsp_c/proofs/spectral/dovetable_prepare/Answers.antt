-- `spectral_dsp_c::spectral::dovetable_prepare` gives what the call answers, and leaves the table
-- as that leaves it. Assumes nothing.
use Rattle.crossing.proofs.Replies.{given, left}
use Rattle.spectral_dsp_c.proofs.spectral.dovetable_prepare.Goals as goal

pub returns : goal.returns
returns c =
    let called = c.prepare-outcome.ensures in
    record { given = given called.result_value c.give_outcome.ensures; table_after = left _ _ called.result_value called.table_after }
