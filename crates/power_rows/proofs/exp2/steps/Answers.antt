-- `steps` fills the first `count` entries: each entry below k is what `steps_of` ensures.
-- Assumes nothing.
use mathlib.Core.Logic.{inl}
use native.Mathlib.Omega.{arith}
use Rattle.lists.specs.Turned.{turned_none, turned_more, turned-to}
use Rattle.power_rows.proofs.exp2.steps.Goals as goal

pub loop-k-init : goal.loop-k-init
loop-k-init c = (turned_none _ _ _, omega arith)

pub steps_of-requires : goal.steps_of-requires
steps_of-requires c =
    c.requires.2 c.loop-k.k c.loop-k-test.true

pub loop-k-preserved : goal.loop-k-preserved
loop-k-preserved c = (turned_more 0 c.loop-k.invariant.0 (omega arith) c.steps_of.ensures, omega arith)

pub shape_of-found : goal.shape_of-found
shape_of-found c = c.loop-k.invariant.0.len

pub returns : goal.returns
returns c = turned-to _ c.loop-k.invariant.0 (inl c.loop-k.invariant.1) (omega arith)
