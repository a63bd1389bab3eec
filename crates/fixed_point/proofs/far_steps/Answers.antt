-- `far_steps` meets its contract: proofs/FarSteps.antt says it of the sum. Assumes nothing.
use mathlib.Core.Path.{sym, subst}
use mathlib.Core.Bool.{not}
use lib.Dec.{T, lit≤}
use lib.Ieee.{Float, binary32, binary64, fits, is_nan, of_bits}
use lib.Ieee.Fits.{and_i, fits_widens}
use Rattle.fixed_point.proofs.FarSteps.{far-no-nan, far-room, far-steps-are}
use Rattle.fixed_point.proofs.Wide.{wide-no-nan}
use Rattle.fixed_point.proofs.far_steps.Goals.{After-row_known-1}
use Rattle.fixed_point.proofs.far_steps.Goals as goal

module _ (c : After-row_known-1) where
  abbrev x : Float
  x = c.args.x

  held : T (fits binary32 x)
  held = subst T (sym c.well_formed.0.1) tt

pub float_to_float-wide : goal.float_to_float-wide
float_to_float-wide c = and_i (fits binary64 (x c)) (not (is_nan (x c))) (fits_widens (x c) (held c)) (wide-no-nan 23 (lit≤ tt) (x c) (held c) c.requires)

pub float_to_bits-result : goal.float_to_bits-result
unfolding of_bits
float_to_bits-result c = far-no-nan (x c) (held c) c.requires

pub overflow_sub-result : goal.overflow_sub-result
unfolding of_bits
overflow_sub-result c = far-room (x c) (held c) c.requires

pub returns : goal.returns
unfolding of_bits
returns c = far-steps-are (x c) (held c) c.requires
