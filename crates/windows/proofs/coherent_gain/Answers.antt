-- `coherent_gain` is the definition's quotient: a size of at most 2 ^ 24 is a value of f32. Assumes
-- nothing.
use mathlib.Core.Path.{ap}
use native.Mathlib.Omega.{arith}
use lib.IntN.{pos}
use lib.ListN.{length}
use lib.Ieee.{Float, binary32, div, of_int}
use Rattle.float32.proofs.Sums.{in-float}
use Rattle.windows.proofs.coherent_gain.Goals as goal

pub int_to_float-result : goal.int_to_float-result
int_to_float-result c = in-float _ (omega arith)

pub returns : goal.returns
returns c =
    let n = length c.args.window.now in
    ap (λ (s : Float). div binary32 s (of_int binary32 (pos n))) c.sum.ensures
