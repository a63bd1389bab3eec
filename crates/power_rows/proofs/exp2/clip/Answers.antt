-- `clip` fills the first `count` entries: each entry below k is what `clipped` ensures. Assumes
-- nothing.
use mathlib.Core.Logic.{inl}
use native.Mathlib.Omega.{arith}
use lib.Ieee.{nan}
use Rattle.lists.specs.Turned.{turned_none, turned_more, turned-to}
use Rattle.power_rows.proofs.exp2.clip.Goals as goal

pub loop-k-init : goal.loop-k-init
loop-k-init c = (turned_none _ _ _, omega arith)

pub loop-k-preserved : goal.loop-k-preserved
loop-k-preserved c = (turned_more nan c.loop-k.invariant.0 (omega arith) c.clipped.ensures, omega arith)

pub shape_of-inside : goal.shape_of-inside
shape_of-inside c = c.loop-k.invariant.0.len

pub returns : goal.returns
returns c = turned-to _ c.loop-k.invariant.0 (inl c.loop-k.invariant.1) (omega arith)
