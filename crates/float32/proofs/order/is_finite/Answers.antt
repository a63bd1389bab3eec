-- `float32::order::is_finite` meets its contract: the difference of a float with itself equals 0
-- exactly where the float is finite. Assumes nothing.
use Rattle.std.proofs.Common.{T, sym, subst}
use Rattle.float32.proofs.FiniteTest.{difference-test}
use Rattle.float32.proofs.order.is_finite.Goals as goal

pub returns : goal.returns
returns c = difference-test c.args.x (subst T (sym c.well_formed.0.1) tt)
