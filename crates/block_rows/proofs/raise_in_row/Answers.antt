-- `raise_in_row` joins the openings of the bins that lobe and row have in common. Assumes nothing.
use native.Mathlib.Omega.{arith}
use Rattle.block_rows.proofs.RowRaised.{row_kept, row-raised}
use Rattle.block_rows.proofs.raise_in_row.Goals as goal

pub overflow_add-lobe : goal.overflow_add-lobe
overflow_add-lobe c =
    omega (arith, c.requires.0.sound.last, c.requires.1.last)

pub openings_by_table-requires : goal.openings_by_table-requires
openings_by_table-requires c = (
  record {
    in-chunk = omega (arith, c.min-to.ensures, c.max-from.ensures, c.requires.0.scratch.chunk-64, c.requires.1.most);
    in-indexes = omega (arith, c.min-to.ensures, c.max-from.ensures, c.requires.0.scratch.indexes-64, c.requires.1.most);
  },
  record { log-of-center = c.requires.0.sound.log-of-center; inside = omega (arith, c.min-to.ensures, c.requires.1.inside) },
)

pub overflow_sub-from : goal.overflow_sub-from
overflow_sub-from c =
    omega (arith, c.max-from.ensures)

pub overflow_sub-to-then-from-to : goal.overflow_sub-to-then-from-to
overflow_sub-to-then-from-to c =
    omega (arith, c.min-to.ensures, c.max-from.ensures, c.if-from-to.true)

pub join-requires : goal.join-requires
join-requires c =
    omega (arith, c.openings_by_table.auto.chunk, c.min-to.ensures, c.max-from.ensures, c.requires.0.scratch.chunk-64, c.requires.1.most, c.if-from-to.true)

pub returns-then-from-to : goal.returns-then-from-to
returns-then-from-to c =
    let opened = rw (c.min-to.ensures, c.max-from.ensures) at c.openings_by_table.ensures in
    let joined = rw (c.min-to.ensures, c.max-from.ensures) at c.join.ensures in
    row-raised c.args.grid c.args.table.now c.args.lobe c.args.start c.args.end c.args.chunk.now _ c.requires.1.from
    (omega (arith, c.min-to.ensures, c.max-from.ensures, c.if-from-to.true))
    (omega (arith, c.requires.0.scratch.chunk-64, c.requires.1.most))
    opened
    c.args.row.now
    joined

pub returns-else-from-to : goal.returns-else-from-to
returns-else-from-to c =
    row_kept c.args.grid c.args.table.now c.args.lobe c.args.start c.args.end c.args.row.now c.requires.1.from (omega (arith, c.min-to.ensures, c.max-from.ensures, c.if-from-to.false))
