-- What each function of one number is. Assumes nothing.
use Rattle.std.specs.Prelude.{Float}
use Rattle.std.specs.Float.{binary32}
use Rattle.elementary.specs.declared.Function.{Function}
use Rattle.elementary.specs.declared.Function.TheVariants.{Exp2, Log2, Sin, Cos, Sqrt, Pow10, Exp, Log10, RemEuclid, Powi2, Powi5, Abs}
use Rattle.square_root.specs.Root.{square_root_of}
use Rattle.float32.specs.Remainder.{rem_euclid_one}
use Rattle.float32.specs.Powers.{square, fifth}
use Rattle.float32.specs.Order.{magnitude}
use Rattle.power.specs.Power.{E2}
use Rattle.power.specs.Log.{L2}
use Rattle.power.specs.Decimal.{pow10, exp, log10}
use Rattle.sine.specs.Sine.{sin_of, cos_of}

abbrev pub value_of : Function → Float → Float
value_of Exp2 x = E2 x
value_of Log2 x = L2 x
value_of Sin x = sin_of x
value_of Cos x = cos_of x
value_of Sqrt x = square_root_of binary32 x
value_of Pow10 x = pow10 x
value_of Exp x = exp x
value_of Log10 x = log10 x
value_of RemEuclid x = rem_euclid_one x
value_of Powi2 x = square x
value_of Powi5 x = fifth x
value_of Abs x = magnitude x
