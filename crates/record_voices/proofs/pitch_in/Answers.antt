-- `pitch_in` meets its contract: a mask of one bit is a remainder. Assumes nothing.
use lib.Bits.{and_mask}
use mathlib.Core.Path.{◌∙◌}
use Rattle.record_voices.proofs.pitch_in.Goals as goal

pub returns : goal.returns
returns c = c.pitch_of.ensures ∙ simp (and_mask c.args.byte 1)
