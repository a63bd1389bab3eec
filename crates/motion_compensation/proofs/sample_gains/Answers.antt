-- `sample_gains` is its three stages, one after the other. Assumes nothing.
use mathlib.Core.Path.{◌∙◌}
use Rattle.motion_compensation.specs.Compensation.{motion_compensation_samples}
use Rattle.motion_rows.proofs.StagedField.{places-staged}
use Rattle.motion_compensation.proofs.sample_gains.Goals as goal

pub returns : goal.returns
returns c =
    let a = c.args in
    let e = rw (c.lowerings.ensures, c.shape_row.ensures) at c.gains.ensures in
    e ∙ places-staged a.field motion_compensation_samples a.row.now
