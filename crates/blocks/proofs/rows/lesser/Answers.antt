-- `lesser` is the smaller of its two. Assumes nothing.
use Rattle.blocks.proofs.rows.lesser.Goals as goal

pub returns-then-b-a : goal.returns-then-b-a
returns-then-b-a c = simp c.if-b-a.true

pub returns-else-b-a : goal.returns-else-b-a
returns-else-b-a c = simp c.if-b-a.false
