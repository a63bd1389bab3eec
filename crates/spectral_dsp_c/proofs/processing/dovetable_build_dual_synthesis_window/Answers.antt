-- `spectral_dsp_c::processing::dovetable_build_dual_synthesis_window` gives what the call answers,
-- and leaves the synthesis window as that leaves it. Assumes nothing.
use Rattle.crossing.proofs.Replies.{given, left}
use Rattle.spectral_dsp_c.proofs.processing.dovetable_build_dual_synthesis_window.Goals as goal

pub returns : goal.returns
returns c =
    let called = c.build_dual_synthesis_window-outcome.ensures in
    record { given = given called.result_value c.give_outcome.ensures; synthesis_after = left _ _ called.result_value called.synthesis_after }
