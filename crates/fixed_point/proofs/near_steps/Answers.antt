-- `near_steps` meets its contract: proofs/NearSteps.antt says it of the sum. Assumes nothing.
use mathlib.Core.Path.{sym, subst}
use mathlib.Core.Bool.{not}
use lib.Dec.{T, lit≤}
use lib.Ieee.{Float, binary32, binary64, fits, is_nan, of_bits}
use lib.Ieee.Fits.{and_i, fits_widens}
use Rattle.fixed_point.proofs.NearSteps.{near-no-nan, near-counted}
use Rattle.fixed_point.proofs.Wide.{wide-no-nan}
use Rattle.fixed_point.proofs.near_steps.Goals.{After-row_known-1}
use Rattle.fixed_point.proofs.near_steps.Goals as goal

module _ (c : After-row_known-1) where
  abbrev x : Float
  x = c.args.x

  held : T (fits binary32 x)
  held = subst T (sym c.well_formed.0.1) tt

pub float_to_float-result : goal.float_to_float-result
float_to_float-result c = and_i (fits binary64 (x c)) (not (is_nan (x c))) (fits_widens (x c) (held c)) (wide-no-nan 9 (lit≤ tt) (x c) (held c) c.requires.0)

pub float_to_bits-result : goal.float_to_bits-result
unfolding of_bits
float_to_bits-result c = near-no-nan (x c) (held c) c.requires.0 c.requires.1

pub returns : goal.returns
unfolding of_bits
returns c = near-counted (x c) (held c) c.requires.0 c.requires.1
