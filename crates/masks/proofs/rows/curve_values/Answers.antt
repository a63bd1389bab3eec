-- `curve_values` is either loop: where the step is not 0 the points by it are the points. Assumes
-- nothing.
use mathlib.Core.Path.{◌∙◌}
use native.Mathlib.Omega.{arith}
use Rattle.masks.proofs.StagedCurve.{by-step}
use Rattle.masks.proofs.rows.curve_values.Goals as goal

pub returns : goal.returns
returns c =
    let a = c.args in
    c.values_by_step.ensures ∙ by-step a.curve.now a.size a.start a.count c.point_step-step.result (omega arith) c.point_step-step.ensures.1 a.row.now
