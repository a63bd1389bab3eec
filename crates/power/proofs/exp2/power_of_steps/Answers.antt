-- `power_of_steps` meets its contract: the high and low bits of y are N and F, from which the bits
-- are made as proofs/Made.antt says. Assumes nothing.
use Rattle.power.proofs.Made.{Middle, bits_are, bits_fit, bits-no-nan}
use Rattle.power.proofs.exp2.power_of_steps.Goals.{Start}
use Rattle.power.proofs.exp2.power_of_steps.Goals as goal

middle : (c : Start) → Middle c.args.y c.args.i
middle c = record { from = c.requires.0; below = c.requires.1; power = c.requires.2 }

pub overflow_cast-result : goal.overflow_cast-result
overflow_cast-result c = record { fits = bits_fit (middle c) }

pub float_from_bits-result : goal.float_from_bits-result
float_from_bits-result c = bits-no-nan (middle c)

pub returns : goal.returns
returns c = bits_are (middle c)
