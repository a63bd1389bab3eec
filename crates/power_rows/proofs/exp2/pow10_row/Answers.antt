-- `pow10_row` is the product and the power of 2, one after the other. Assumes nothing.
use mathlib.Core.Path.{◌∙◌}
use Rattle.lists.specs.Stages.{stages}
use Rattle.power_rows.proofs.exp2.pow10_row.Goals as goal

pub returns : goal.returns
returns c =
    let e = rw c.scale.ensures at c.exp2_row.ensures in
    e ∙ stages _ _ 0 _ _
