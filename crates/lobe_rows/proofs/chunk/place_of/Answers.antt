-- `place_of` is what `position` ensures, of what `relative_square` ensures. Assumes nothing.
use Rattle.lobe_rows.proofs.chunk.place_of.Goals as goal

pub returns : goal.returns
returns c = rw (← c.relative_square.ensures) c.position.ensures
