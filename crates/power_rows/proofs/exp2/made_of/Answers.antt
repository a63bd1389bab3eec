-- `made_of` makes the bits that Exp2Staged.antt names. Assumes nothing.
use Prim.Native.Nat.{◌*◌, ◌^◌, ◌<◌}
use native.Mathlib.Omega.{arith}
use Rattle.power_rows.proofs.Exp2Staged.{made-fit, made-no-nan, made-are}
use Rattle.power_rows.proofs.exp2.made_of.Goals.{Start}
use Rattle.power_rows.proofs.exp2.made_of.Goals as goal

below : (c : Start) → c.args.y < 256 * 2 ^ 24
below c = omega arith

pub overflow_cast-result-2 : goal.overflow_cast-result-2
overflow_cast-result-2 c = record { fits = made-fit c.args.y c.args.q c.requires.0 (below c) c.requires.1 }

pub float_from_bits-result : goal.float_from_bits-result
float_from_bits-result c = made-no-nan c.args.y c.args.q c.requires.0 (below c) c.requires.1

pub returns : goal.returns
returns c = made-are c.args.y c.args.q c.requires.0 (below c) c.requires.1
