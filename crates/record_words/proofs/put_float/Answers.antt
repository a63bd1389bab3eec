-- `put_float` meets its contract. Assumes nothing.
use mathlib.Core.Path.{◌∙◌}
use Rattle.record_words.proofs.put_float.Goals as goal

pub returns : goal.returns
returns c =
    c.put_four.ensures ∙ simp c.bits_of.ensures
