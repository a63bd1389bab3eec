-- `manual_gains` is its three stages, one after the other. Assumes nothing.
use mathlib.Core.Path.{◌∙◌}
use Rattle.masks.proofs.StagedCurve.{staged}
use Rattle.masks.proofs.rows.manual_gains.Goals as goal

pub returns : goal.returns
returns c =
    let a = c.args in
    let e = rw (c.counted_values.ensures.row_after, c.curve_values.ensures) at c.gains.ensures in
    e ∙ staged a.curve.now a.size a.start a.count a.row.now
