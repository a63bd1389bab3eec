-- `spectral_dsp_c::processing::dovetable_smooth_mask_in_db` gives what the call answers, and leaves
-- the current gains as that leaves it. Assumes nothing.
use Rattle.crossing.proofs.Replies.{given, left}
use Rattle.spectral_dsp_c.proofs.processing.dovetable_smooth_mask_in_db.Goals as goal

pub returns : goal.returns
returns c =
    let called = c.smooth_mask_in_db-outcome.ensures in
    record { given = given called.result_value c.give_outcome.ensures; current_after = left _ _ called.result_value called.current_after }
