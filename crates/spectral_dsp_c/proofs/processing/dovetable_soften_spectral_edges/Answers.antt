-- `spectral_dsp_c::processing::dovetable_soften_spectral_edges` gives what the call answers, and
-- leaves the output as that leaves it. Assumes nothing.
use Rattle.crossing.proofs.Replies.{given, left}
use Rattle.spectral_dsp_c.proofs.processing.dovetable_soften_spectral_edges.Goals as goal

pub returns : goal.returns
returns c =
    let called = c.soften_spectral_edges-outcome.ensures in
    record { given = given called.result_value c.give_outcome.ensures; output_after = left _ _ called.result_value called.output_after }
