-- `limits::slices::lesser` meets its contract, test by test. Assumes nothing.
use Rattle.limits.proofs.slices.lesser.Goals as goal

pub returns-then-x-y : goal.returns-then-x-y
returns-then-x-y c = simp c.if-x-y.true

pub returns-else-x-y : goal.returns-else-x-y
returns-else-x-y c = simp c.if-x-y.false
