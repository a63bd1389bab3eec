-- `steps` replaces the first `count` places, and as many indexes: of those below k each is what
-- `step_of` ensures. Assumes nothing.
use mathlib.Core.Path.{sym, ap, ◌∙◌, subst}
use mathlib.Core.Logic.{inl}
use native.Mathlib.Omega.{arith}
use lib.Ieee.{nan}
use Rattle.lists.specs.Turned.{turned_none, turned-read, turned_more, turned-to}
use Rattle.lists.specs.Runs.{turned-next}
use Rattle.gaussian.specs.Bell.{Place, index_of}
use Rattle.lobe_rows.proofs.chunk.steps.Goals as goal

pub loop-k-init : goal.loop-k-init
loop-k-init c = (turned_none _ _ _, turned_none _ _ _, omega arith)

pub step_of-step-requires : goal.step_of-step-requires
step_of-step-requires c =
    subst Place (sym (turned-read nan c.loop-k.invariant.0 (omega (arith, c.requires.0.in-chunk)))) (c.requires.1 c.loop-k.k c.loop-k-test.true)

pub loop-k-preserved : goal.loop-k-preserved
loop-k-preserved c =
    let read = turned-read nan c.loop-k.invariant.0 (omega (arith, c.requires.0.in-chunk)) in (
      turned-next nan c.loop-k.invariant.0 (omega (arith, c.requires.0.in-chunk)) c.step_of-step.ensures.1,
      turned_more 0 c.loop-k.invariant.1 (omega (arith, c.requires.0.in-indexes)) (c.step_of-step.ensures.0 ∙ ap index_of read),
      omega arith,
    )

pub shape_of-chunk : goal.shape_of-chunk
shape_of-chunk c = c.loop-k.invariant.0.len

pub shape_of-indexes : goal.shape_of-indexes
shape_of-indexes c = c.loop-k.invariant.1.len

pub returns : goal.returns
returns c =
    let l = c.loop-k in
    (turned-to _ l.invariant.0 (inl l.invariant.2) (omega arith), turned-to _ l.invariant.1 (inl l.invariant.2) (omega arith))
