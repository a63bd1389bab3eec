-- `float_at` meets its contract. Assumes nothing.
use lib.Ieee.{of_bits, binary32}
use mathlib.Core.Path.{ap, ◌∙◌}
use Rattle.record_words.proofs.float_at.Goals as goal

pub returns : goal.returns
returns c = c.of_bits.ensures ∙ ap (of_bits binary32) c.four_at.ensures
