-- `spectral_dsp_c::oiko::dovetable_note_frequency_with_tuning` gives what the open call answers.
-- Assumes nothing.
use Rattle.crossing.proofs.Replies.{given-value}
use Rattle.spectral_dsp_c.proofs.oiko.dovetable_note_frequency_with_tuning.Goals as goal

pub returns : goal.returns
returns c = given-value c.note_frequency_with_tuning.ensures c.give_answer.ensures
