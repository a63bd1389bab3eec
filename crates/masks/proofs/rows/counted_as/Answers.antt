-- `counted_as` is its definition, by the test and what `min` ensures. Assumes nothing.
use Rattle.masks.specs.Counted.{counted_as}
use Rattle.masks.proofs.rows.counted_as.Goals as goal

pub returns-then-db : goal.returns-then-db
unfolding counted_as
returns-then-db c = simp (c.if-db.true, c.min.ensures)

pub returns : goal.returns
unfolding counted_as
returns c = simp c.if-db.false
