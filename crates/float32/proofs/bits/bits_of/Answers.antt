-- `float32::bits::bits_of` meets its contract: a float that differs from itself is NaN. Assumes
-- nothing.
use lib.Ieee.{to_bits}
use Rattle.float32.proofs.Patterns.{tested-nan, tested-number}
use Rattle.float32.proofs.bits.bits_of.Goals as goal

pub float_to_bits-result : goal.float_to_bits-result
float_to_bits-result c = tested-number c.args.x c.if-x.false

pub returns-then-x : goal.returns-then-x
unfolding to_bits
returns-then-x c = simp (tested-nan _ c.if-x.true)
