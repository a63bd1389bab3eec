-- `motion_gains` is its three stages, one after the other. Assumes nothing.
use mathlib.Core.Path.{◌∙◌}
use Rattle.motion_rows.proofs.StagedField.{gains-staged}
use Rattle.motion_rows.proofs.motion_gains.Goals as goal

pub returns : goal.returns
returns c =
    let a = c.args in
    let e = rw (c.lowerings.ensures, c.openings.ensures) at c.gains.ensures in
    e ∙ gains-staged a.field a.bin_hz a.start a.count a.row.now
