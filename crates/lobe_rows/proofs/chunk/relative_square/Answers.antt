-- `relative_square` is the definition's maximum, of what `powi2` ensures. Assumes nothing.
use Rattle.lobe_rows.proofs.chunk.relative_square.Goals as goal

pub returns : goal.returns
returns c = rw (← c.powi2.ensures) c.max.ensures
