-- `spectral_dsp_c::spectral::dovetable_manual_gain_at_bin` gives what the open call answers.
-- Assumes nothing.
use Rattle.crossing.proofs.Replies.{given-value}
use Rattle.spectral_dsp_c.proofs.spectral.dovetable_manual_gain_at_bin.Goals as goal

pub returns : goal.returns
returns c = given-value c.manual_gain_at_bin.ensures c.give_answer.ensures
