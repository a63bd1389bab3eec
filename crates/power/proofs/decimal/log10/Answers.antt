-- `log10` meets its contract: it is the product of what `log2` ensures and the constant. Assumes
-- nothing.
use mathlib.Core.Path.{ap}
use lib.Ieee.{Float, binary32, mul}
use Rattle.float32.specs.Constants.{log10_2}
use Rattle.power.proofs.decimal.log10.Goals as goal

pub returns : goal.returns
returns g c = ap (λ (z : Float). mul binary32 z log10_2) c.log2.ensures
