-- `leading` fills the first `count` entries: each entry below k is what `digits_of` ensures.
-- Assumes nothing.
use mathlib.Core.Logic.{inl}
use native.Mathlib.Omega.{arith}
use Rattle.lists.specs.Turned.{turned_none, turned_more, turned-to}
use Rattle.power_rows.proofs.exp2.leading.Goals as goal

pub loop-k-init : goal.loop-k-init
loop-k-init c = (turned_none _ _ _, omega arith)

pub loop-k-preserved : goal.loop-k-preserved
loop-k-preserved c = (turned_more 0 c.loop-k.invariant.0 (omega arith) c.digits_of.ensures, omega arith)

pub shape_of-values : goal.shape_of-values
shape_of-values c = c.loop-k.invariant.0.len

pub returns : goal.returns
returns c = turned-to _ c.loop-k.invariant.0 (inl c.loop-k.invariant.1) (omega arith)
