-- `float32::order::in_range` meets its contract, test by test. Assumes nothing.
use Rattle.float32.specs.Order.{within}
use Rattle.float32.proofs.order.in_range.Goals as goal

pub returns-then-lo-x : goal.returns-then-lo-x
unfolding within
returns-then-lo-x c = simp c.if-lo-x.true

pub returns-else-lo-x : goal.returns-else-lo-x
unfolding within
returns-else-lo-x c = simp c.if-lo-x.false
