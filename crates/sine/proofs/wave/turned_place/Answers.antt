-- `sine::wave::turned_place` meets its contract: the masks are remainders, and the quarter is odd
-- where its low bit is 1. Assumes nothing.
use native.Mathlib.Nat.{le_of_lt}
use lib.Bits.{mask_lt}
use Rattle.sine.proofs.Waves.{turned-odd, turned-even}
use Rattle.sine.proofs.wave.turned_place.Goals as goal

pub overflow_sub-result : goal.overflow_sub-result
overflow_sub-result c = le_of_lt (mask_lt c.args.place 22)

pub returns-then-place-eq1 : goal.returns-then-place-eq1
returns-then-place-eq1 c = turned-odd c.args.place c.if-place-eq1.true

pub returns : goal.returns
returns c = turned-even c.args.place c.if-place-eq1.false
