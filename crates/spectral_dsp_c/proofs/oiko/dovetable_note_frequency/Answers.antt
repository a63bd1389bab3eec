-- `spectral_dsp_c::oiko::dovetable_note_frequency` gives what the open call answers. Assumes
-- nothing.
use Rattle.crossing.proofs.Replies.{given-value}
use Rattle.spectral_dsp_c.proofs.oiko.dovetable_note_frequency.Goals as goal

pub returns : goal.returns
returns c = given-value c.note_frequency.ensures c.give_answer.ensures
