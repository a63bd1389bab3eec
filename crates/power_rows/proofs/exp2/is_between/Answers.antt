-- `is_between` meets its contract, test by test. Assumes nothing.
use lib.Ieee.{of_bits}
use Rattle.power_rows.specs.Exp2.{between}
use Rattle.power_rows.proofs.exp2.is_between.Goals as goal

pub returns-then-x : goal.returns-then-x
unfolding between of_bits
returns-then-x c = simp c.if-x.true

pub returns-else-x : goal.returns-else-x
unfolding between of_bits
returns-else-x c = simp c.if-x.false
