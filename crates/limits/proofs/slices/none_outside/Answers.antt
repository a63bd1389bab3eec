-- `limits::slices::none_outside` meets its contract: while the answer is true, every entry of the
-- two halves up to here is inside. Assumes nothing.
use mathlib.Core.Path.{refl}
use native.Mathlib.Omega.{arith}
use lib.Ieee.{nan}
use Rattle.lists.proofs.Folds.{bad-none}
use Rattle.limits.proofs.Halves.{tested-none, tested-more, tested-all}
use Rattle.limits.proofs.slices.none_outside.Goals as goal

pub loop-i-init : goal.loop-i-init
loop-i-init c t = tested-none nan _ _ _

pub loop-i-preserved : goal.loop-i-preserved
loop-i-preserved c =
    let w = c.pair_in_range-all in
    let l = c.loop-i in
    tested-more nan _ _ _ l.i l.all w.result _ refl w.ensures l.invariant

pub returns : goal.returns
returns c t = bad-none nan _ _ (tested-all nan _ _ _ _ (omega arith) (omega arith) (c.loop-i.invariant t))
