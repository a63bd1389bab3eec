-- `decibel_row` is its three stages, one after the other. Assumes nothing.
use mathlib.Core.Path.{◌∙◌}
use Rattle.lists.specs.Stages.{stages}
use Rattle.smoothing.proofs.decibel_row.Goals as goal

pub returns : goal.returns
returns c =
    let e = rw (c.log2_row.ensures, c.audible.ensures) at c.scaled.ensures in
    e ∙ stages _ _ 0 _ _ ∙ stages _ _ 0 _ _
