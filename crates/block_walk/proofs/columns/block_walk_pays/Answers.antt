-- `block_walk_pays` is defined everywhere. Assumes nothing.
use native.Mathlib.Omega.{arith}
use Rattle.float32.proofs.Sums.{in-float}
use Rattle.block_walk.proofs.columns.block_walk_pays.Goals as goal

pub int_to_float-partials : goal.int_to_float-partials
int_to_float-partials c = in-float _ (omega (arith, c.if-grid-gt-MAX_PARTIALS.false))
