-- `width_position` is `width_position`: of a narrow width the clamp of 0 is 0, and of any other the
-- steps are the definition's. Assumes nothing.
use lib.Ieee.{lt, of_bits}
use Rattle.float32.specs.Order.{clamp}
use Rattle.masks.specs.Gates.{width_position}
use Rattle.masks.proofs.gates.width_position.Goals as goal

pub returns-then-width : goal.returns-then-width
unfolding width_position clamp lt of_bits
returns-then-width c = simp c.if-width.true

pub returns : goal.returns
unfolding width_position
returns c = simp (c.if-width.false, c.clamp.ensures, c.log2.ensures, c.log2-octaves.ensures)
