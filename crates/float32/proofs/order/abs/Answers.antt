-- `float32::order::abs` meets its contract: a mask clears the sign, and the pattern stays that of a
-- number. Assumes nothing.
use Rattle.std.proofs.Common.{T, sym, subst}
use lib.Ieee.{binary32, fits}
use Rattle.float32.specs.Order.{magnitude}
use Rattle.float32.proofs.Patterns.{tested-nan, tested-number, magnitude-pattern, magnitude-number}
use Rattle.float32.proofs.order.abs.Goals.{Start}
use Rattle.float32.proofs.order.abs.Goals as goal

held : (c : Start) → T (fits binary32 c.args.x)
held c = subst T (sym c.well_formed.0.1) tt

pub returns-then-x : goal.returns-then-x
unfolding magnitude
returns-then-x c = rw (tested-nan c.args.x c.if-x.true)

pub float_to_bits-result : goal.float_to_bits-result
float_to_bits-result c = tested-number c.args.x c.if-x.false

pub float_from_bits-result : goal.float_from_bits-result
float_from_bits-result c = magnitude-number c.args.x (held c.before) (tested-number c.args.x c.if-x.false)

pub returns : goal.returns
returns c = magnitude-pattern c.args.x (held c.before)
