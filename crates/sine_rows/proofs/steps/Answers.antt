-- `steps` fills the first `count` indexes and parts: each entry below k is what `step_of` ensures.
-- Assumes nothing.
use mathlib.Core.Logic.{inl}
use native.Mathlib.Omega.{arith}
use Rattle.lists.specs.Turned.{turned_none, turned_more, turned-to}
use Rattle.sine_rows.proofs.steps.Goals as goal

pub loop-k-init : goal.loop-k-init
loop-k-init c = (turned_none _ _ _, turned_none _ _ _, omega arith)

pub loop-k-preserved : goal.loop-k-preserved
loop-k-preserved c =
    let l = c.loop-k in (
      turned_more 0 l.invariant.0 (omega arith) c.step_of-step.ensures.0,
      turned_more 0 l.invariant.1 (omega arith) c.step_of-step.ensures.1,
      omega arith,
    )

pub shape_of-indexes : goal.shape_of-indexes
shape_of-indexes c = c.loop-k.invariant.0.len

pub shape_of-parts : goal.shape_of-parts
shape_of-parts c = c.loop-k.invariant.1.len

pub returns : goal.returns
returns c =
    let l = c.loop-k in
    (turned-to _ l.invariant.0 (inl l.invariant.2) (omega arith), turned-to _ l.invariant.1 (inl l.invariant.2) (omega arith))
