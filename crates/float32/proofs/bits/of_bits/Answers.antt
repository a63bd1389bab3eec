-- `float32::bits::of_bits` meets its contract: the patterns above an infinity's are those of NaN,
-- which 0 / 0 gives. Assumes nothing.
use Rattle.std.proofs.Common.{sym}
use lib.Ieee.{div, of_bits, of_fields, odd}
use Rattle.float32.proofs.Patterns.{pattern-nan, pattern_number}
use Rattle.float32.proofs.bits.of_bits.Goals as goal

pub float_from_bits-result : goal.float_from_bits-result
float_from_bits-result c = pattern_number c.args.n c.if-n-gt2139095040.false

pub returns-then-n-gt2139095040 : goal.returns-then-n-gt2139095040
unfolding div of_bits of_fields odd
returns-then-n-gt2139095040 c = sym (pattern-nan c.args.n c.if-n-gt2139095040.true)
