-- `even_power` meets its contract: the leading zeros of mant are 8 to 31, and what the digits gain
-- the exponent loses. Assumes nothing.
use native.Mathlib.Omega.{arith}
use Rattle.square_root.proofs.EvenPowers.{zeros-least, zeros-most, by-fours}
use Rattle.square_root.proofs.even_power.Goals as goal

pub overflow_sub-lead : goal.overflow_sub-lead
overflow_sub-lead c = zeros-least c.args.mant c.args.expo c.requires.0 c.requires.1 c.requires.2

pub overflow_sub-rest : goal.overflow_sub-rest
overflow_sub-rest c = omega (arith, zeros-most c.args.mant c.args.expo c.requires.0 c.requires.1 c.requires.2)

pub overflow_add-result : goal.overflow_add-result
overflow_add-result c = record { fits = omega (arith, zeros-most c.args.mant c.args.expo c.requires.0 c.requires.1 c.requires.2) }

pub overflow_add-result-2 : goal.overflow_add-result-2
overflow_add-result-2 c = record { fits = omega (arith, zeros-most c.args.mant c.args.expo c.requires.0 c.requires.1 c.requires.2) }

pub overflow_cast-result-2 : goal.overflow_cast-result-2
overflow_cast-result-2 c = record { fits = omega (arith, zeros-most c.args.mant c.args.expo c.requires.0 c.requires.1 c.requires.2) }

pub overflow_shl-result : goal.overflow_shl-result
overflow_shl-result c = omega (arith, zeros-most c.args.mant c.args.expo c.requires.0 c.requires.1 c.requires.2)

pub returns : goal.returns
returns c = by-fours c.args.mant c.args.expo c.requires.0 c.requires.1 c.requires.2
