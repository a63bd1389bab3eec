-- `log10_row` is the logarithm to base 2 and the product, one after the other. Assumes nothing.
use mathlib.Core.Path.{◌∙◌}
use Rattle.lists.specs.Stages.{stages}
use Rattle.power_rows.proofs.log2.log10_row.Goals as goal

pub returns : goal.returns
returns c =
    let e = rw c.log2_row.ensures at c.scale.ensures in
    e ∙ stages _ _ 0 _ _
