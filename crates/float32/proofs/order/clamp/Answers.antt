-- `float32::order::clamp` meets its contract, test by test. Assumes nothing.
use Rattle.float32.specs.Order.{clamp}
use Rattle.float32.proofs.order.clamp.Goals as goal

pub returns-then-x-lo : goal.returns-then-x-lo
unfolding clamp
returns-then-x-lo c = simp c.if-x-lo.true

pub returns-then-hi-x : goal.returns-then-hi-x
unfolding clamp
returns-then-hi-x c = simp (c.if-x-lo.false, c.if-hi-x.true)

pub returns-else-hi-x : goal.returns-else-hi-x
unfolding clamp
returns-else-hi-x c = simp (c.if-x-lo.false, c.if-hi-x.false)
