-- `spectral_dsp_c::spectral::dovetable_note_emphasis_gain` gives what the open call answers.
-- Assumes nothing.
use Rattle.crossing.proofs.Replies.{given-value}
use Rattle.spectral_dsp_c.proofs.spectral.dovetable_note_emphasis_gain.Goals as goal

pub returns : goal.returns
returns c = given-value c.note_emphasis_gain.ensures c.give_answer.ensures
