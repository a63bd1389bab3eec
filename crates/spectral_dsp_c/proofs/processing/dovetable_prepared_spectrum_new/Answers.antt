-- `spectral_dsp_c::processing::dovetable_prepared_spectrum_new` gives what the call answers, and
-- leaves the block as that leaves it. Assumes nothing.
use Rattle.crossing.proofs.Replies.{given-values, left}
use Rattle.spectral_dsp_c.proofs.processing.dovetable_prepared_spectrum_new.Goals as goal

pub returns : goal.returns
returns c =
    let called = c.new-prepared.ensures in
    record { given_values = given-values called.result_value c.give_prepared.ensures; block_after = left _ _ called.result_value called.block_after }
