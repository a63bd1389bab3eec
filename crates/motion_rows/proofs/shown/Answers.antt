-- `shown` meets its contract in either case of its test. Assumes nothing.
use Rattle.motion_rows.proofs.shown.Goals as goal

pub returns-then-frequency : goal.returns-then-frequency
returns-then-frequency c = simp c.if-frequency.true

pub returns : goal.returns
returns c = simp c.if-frequency.false
