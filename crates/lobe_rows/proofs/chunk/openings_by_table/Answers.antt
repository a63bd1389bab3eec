-- `openings_by_table` is the bells and what the lobe opens under them. Assumes nothing.
use mathlib.Core.Path.{◌∙◌}
use Rattle.lobe_rows.proofs.Staged.{staged}
use Rattle.lobe_rows.proofs.chunk.openings_by_table.Goals as goal

pub returns : goal.returns
returns c =
    let e = rw c.bells.ensures at c.openings_of_bells.ensures in
    e ∙ staged c.args.grid c.args.lobe c.args.table.now c.args.lobe.center_log2 c.args.start c.args.count c.requires.1.log-of-center c.args.chunk.now
