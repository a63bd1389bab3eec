-- `float32::order::max` meets its contract: `a != a` tests for NaN. Assumes nothing.
use Rattle.float32.specs.Order.{maximum}
use Rattle.float32.proofs.Patterns.{nan-test}
use Rattle.float32.proofs.order.max.Goals as goal

pub returns-then-a-b : goal.returns-then-a-b
unfolding maximum
returns-then-a-b c = simp c.if-a-b.true

pub returns-then-a : goal.returns-then-a
unfolding maximum
returns-then-a c = simp (c.if-a-b.false, nan-test, c.if-a.true)

pub returns-else-a : goal.returns-else-a
unfolding maximum
returns-else-a c = simp (c.if-a-b.false, nan-test, c.if-a.false)
