-- `spectral_dsp_c::oiko::dovetable_db_to_gain` gives what the open call answers. Assumes nothing.
use Rattle.crossing.proofs.Replies.{given-value}
use Rattle.spectral_dsp_c.proofs.oiko.dovetable_db_to_gain.Goals as goal

pub returns : goal.returns
returns c = given-value c.db_to_gain.ensures c.give_answer.ensures
