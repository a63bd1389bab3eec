-- `lobes::pan::balance` meets its contract: its tests are the arms of the definition. Assumes
-- nothing.
use Rattle.lobes.specs.Pan.{balance}
use Rattle.lobes.proofs.pan.balance.Goals as goal

pub returns-then-pan : goal.returns-then-pan
unfolding balance
returns-then-pan c = simp c.if-pan.true

pub returns-in-Mono : goal.returns-in-Mono
unfolding balance
returns-in-Mono c = rw c.in-Mono.is (simp c.if-pan.false)

pub returns-in-Left : goal.returns-in-Left
unfolding balance
returns-in-Left c = rw c.in-Left.is (simp (c.if-pan.false, c.if-pan-2.true))

pub returns-in-Left-2 : goal.returns-in-Left-2
unfolding balance
returns-in-Left-2 c = rw c.in-Left.is (simp (c.if-pan.false, c.if-pan-2.false, c.cos.ensures))

pub returns-in-Right : goal.returns-in-Right
unfolding balance
returns-in-Right c = rw c.in-Right.is (simp (c.if-pan.false, c.if-pan-3.true))

pub returns-in-Right-2 : goal.returns-in-Right-2
unfolding balance
returns-in-Right-2 c = rw c.in-Right.is (simp (c.if-pan.false, c.if-pan-3.false, c.sin.ensures))
