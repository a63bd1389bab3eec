-- `motion::shapes::saw` meets its contract: which of the two parts of the cycle it is, is what the
-- test says. Assumes nothing.
use Rattle.motion.specs.Shapes.{saw, saw_at}
use Rattle.motion.proofs.shapes.saw.Goals as goal

pub returns-then-cycle : goal.returns-then-cycle
unfolding saw saw_at
returns-then-cycle c = simp (← c.rem_euclid_one-cycle.ensures, c.if-cycle.true)

pub returns : goal.returns
unfolding saw saw_at
returns c = simp (← c.rem_euclid_one-cycle.ensures, c.if-cycle.false, c.smoothstep.ensures)
