-- `gaussian::step_of` meets its contract: proofs/Index.antt says what the bits of its sum count.
-- Assumes nothing.
use mathlib.Core.Path.{ap}
use Prim.Native.Nat.{ℕ}
use native.Mathlib.Omega.{arith}
use lib.IntN.{pos}
use lib.Ieee.{binary32, of_bits, of_int, sub}
use Rattle.float32.proofs.Sums.{in-float}
use Rattle.gaussian.proofs.Index.{low-bits-most, sum-no-nan, up_fits, index_is}
use Rattle.gaussian.proofs.step_of.Goals as goal

pub float_to_bits-index : goal.float_to_bits-index
unfolding of_bits
float_to_bits-index c = sum-no-nan c.args.place c.requires

pub overflow_sub-index : goal.overflow_sub-index
unfolding of_bits
overflow_sub-index c = omega (arith, up_fits c.args.place c.requires)

pub int_to_float-part : goal.int_to_float-part
int_to_float-part c = in-float _ (search low-bits-most)

pub returns : goal.returns
unfolding of_bits
returns c =
    let e = index_is c.args.place c.requires in
    (e, ap (λ (n : ℕ). sub binary32 c.args.place (of_int binary32 (pos n))) e)
