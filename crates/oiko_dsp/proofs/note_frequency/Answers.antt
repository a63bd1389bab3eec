-- `note_frequency` is the call with a tuning of 0, which lies within its limits. Assumes nothing.
use lib.Ieee.{of_bits, le}
use Rattle.float32.specs.Order.{within}
use Rattle.oiko_dsp.specs.Calls.{note_frequency, note_frequency_with_tuning}
use Rattle.oiko_dsp.proofs.note_frequency.Goals as goal

pub returns : goal.returns
unfolding note_frequency note_frequency_with_tuning within le of_bits
returns c = c.note_frequency_with_tuning.ensures
