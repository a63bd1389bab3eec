-- `curve_gain` is its definition, by the test and what `min` and `single_gain` ensure. Assumes
-- nothing.
use Rattle.masks.specs.Manual.{curve_gain}
use Rattle.masks.proofs.manual.curve_gain.Goals as goal

pub returns-then-db : goal.returns-then-db
unfolding curve_gain
returns-then-db c = simp (c.if-db.true, c.single_gain.ensures, c.min.ensures)

pub returns : goal.returns
unfolding curve_gain
returns c = simp c.if-db.false
