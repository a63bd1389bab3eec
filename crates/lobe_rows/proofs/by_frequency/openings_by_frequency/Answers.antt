-- `openings_by_frequency` is its five stages, one after the other. Assumes nothing.
use mathlib.Core.Path.{◌∙◌}
use Rattle.lobe_rows.proofs.Staged.{staged-by-frequency}
use Rattle.lobe_rows.proofs.by_frequency.openings_by_frequency.Goals as goal

pub returns : goal.returns
returns c =
    let a = c.args in
    let w = rw (c.exp_row.ensures, c.exponents.ensures, c.log2_row.ensures, c.ratios.ensures) at c.openings_of_bells.ensures in
    w ∙ staged-by-frequency a.grid a.lobe a.start a.count a.chunk.now
