-- powf(10, y), exp(y) and log10(v) of document 01, from E2 and L2 by one product each. Assumes
-- nothing.
use Rattle.std.specs.Prelude.{Float}
use Rattle.std.specs.Float.{binary32}
use Rattle.std.specs.Float.Ieee.{mul}
use Rattle.float32.specs.Constants.{log2_10, log2_e, log10_2}
use Rattle.power.specs.Power.{E2}
use Rattle.power.specs.Log.{L2}

abbrev pub pow10 : Float → Float
pow10 y = E2 (mul binary32 y log2_10)

abbrev pub exp : Float → Float
exp y = E2 (mul binary32 y log2_e)

abbrev pub log10 : Float → Float
log10 v = mul binary32 (L2 v) log10_2
