-- `drifts` walks along the row: the places below `start` are done. Assumes nothing.
use mathlib.Core.Path.{refl}
use mathlib.Core.Logic.{inl}
use native.Mathlib.Omega.{arith}
use Rattle.lists.specs.Turned.{turned_none, turned-to}
use Rattle.lists.specs.Runs.{turned-by}
use Rattle.motion_rows.proofs.shapes.drifts.Goals as goal

pub loop-start-init : goal.loop-start-init
loop-start-init c = (turned_none _ _ _, omega arith, refl, refl, refl)

pub loop-start-preserved : goal.loop-start-preserved
loop-start-preserved c = (
  turned-by _ _ c.loop-start.invariant.0 c.few_drifts.ensures (omega (arith, c.min-few.ensures)),
  omega (arith, c.min-few.ensures, c.loop-start.invariant.1),
  omega (arith, c.few_drifts.auto.broad, c.loop-start.invariant.2),
  omega (arith, c.few_drifts.auto.middle, c.loop-start.invariant.3),
  omega (arith, c.few_drifts.auto.detail, c.loop-start.invariant.4),
)

pub shape_of-row : goal.shape_of-row
shape_of-row c = c.loop-start.invariant.0.len

pub returns : goal.returns
returns c = turned-to _ c.loop-start.invariant.0 (inl c.loop-start.invariant.1) (omega arith)

pub returns-2 : goal.returns-2
returns-2 c =
    (turned-by _ c.args.count c.loop-start.invariant.0 c.few_drifts.ensures (omega (arith, c.min-few.ensures))).is
