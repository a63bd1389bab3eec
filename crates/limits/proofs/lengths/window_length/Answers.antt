-- `window_length` is the definition's pair of tests. Assumes nothing.
use borrow.Author.Tests.{le-leb, lt-leb}
use Rattle.limits.proofs.lengths.window_length.Goals as goal

pub returns-then-n-ge1 : goal.returns-then-n-ge1
returns-then-n-ge1 c = rw (le-leb _ _ c.if-n-ge1.true)

pub returns-else-n-ge1 : goal.returns-else-n-ge1
returns-else-n-ge1 c = rw (lt-leb _ _ c.if-n-ge1.false)
