-- `limits::slices::none_outside` meets its contract: while the answer is true, every entry of the
-- two halves up to here is inside. Assumes nothing.
use mathlib.Core.Path.{◌≡◌}
use mathlib.Core.Bool.{true}
use lib.Ieee.{nan}
use Rattle.float32.specs.Order.{within}
use Rattle.limits.proofs.Halves.{Tested}
use Rattle.limits.proofs.slices.none_outside.Given as goal

abbrev pub invariant-loop-i : goal.invariant-loop-i
invariant-loop-i l = l.all ≡ true → Tested nan (within l.lo l.hi) l.xs l.rest l.i
