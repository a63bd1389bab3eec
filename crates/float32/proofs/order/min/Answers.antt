-- `float32::order::min` meets its contract: `a != a` tests for NaN. Assumes nothing.
use Rattle.float32.specs.Order.{minimum}
use Rattle.float32.proofs.Patterns.{nan-test}
use Rattle.float32.proofs.order.min.Goals as goal

pub returns-then-b-a : goal.returns-then-b-a
unfolding minimum
returns-then-b-a c = simp c.if-b-a.true

pub returns-then-a : goal.returns-then-a
unfolding minimum
returns-then-a c = simp (c.if-b-a.false, nan-test, c.if-a.true)

pub returns-else-a : goal.returns-else-a
unfolding minimum
returns-else-a c = simp (c.if-b-a.false, nan-test, c.if-a.false)
