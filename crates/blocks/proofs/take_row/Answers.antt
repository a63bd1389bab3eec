-- `take_row` leaves the run in the row: first its first entry everywhere, then as many of its
-- entries as there are. Assumes nothing.
use Rattle.lists.specs.Maps.{replicate-tabulate}
use mathlib.Core.Path.{◌∙◌}
use native.Mathlib.Omega.{arith}
use Rattle.blocks.proofs.Runs.{row_of}
use Rattle.blocks.proofs.take_row.Goals as goal

pub bounds-from-start : goal.bounds-from-start
bounds-from-start c = c.requires.1

pub copy_row-requires : goal.copy_row-requires
copy_row-requires c =
    (omega (arith, c.min.ensures, c.fill.auto.self, c.requires.0), omega (arith, c.min.ensures, c.requires.1))

pub shape_of-row : goal.shape_of-row
shape_of-row c =
    c.copy_row.auto.row ∙ c.fill.auto.self

pub returns : goal.returns
returns c =
    row_of c.args.start c.min.result c.args.from.now c.args.row.now c.requires.1 c.requires.0 (c.fill.ensures.after (λ y e. e) ∙ replicate-tabulate _ _) c.min.ensures c.copy_row.ensures
