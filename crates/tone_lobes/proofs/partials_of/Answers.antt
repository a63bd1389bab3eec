-- `partials_of` counts: the partials before the current one and those from it on are all. Assumes
-- nothing.
use native.Mathlib.Omega.{arith}
use Rattle.tone_lobes.proofs.Listed.{after_none, after_next, after_stop, after-all}
use Rattle.tone_lobes.proofs.partials_of.Goals as goal

pub loop-count-init : goal.loop-count-init
loop-count-init c = (omega arith, omega (arith, after_none c.args.grid c.args.tone))

pub overflow_add-count : goal.overflow_add-count
overflow_add-count c = omega (arith, c.loop-count-test.true, c.requires)

pub center_of-requires : goal.center_of-requires
center_of-requires c = omega (arith, c.loop-count-test.true, c.requires)

pub returns-then-grid-center_of : goal.returns-then-grid-center_of
returns-then-grid-center_of c =
    let above = rw c.center_of.ensures at c.if-grid-center_of.true in
    (omega (arith, c.loop-count.invariant.1, after_stop c.args.grid c.args.tone c.loop-count.count c.loop-count-test.true above), c.loop-count.invariant.0)

pub loop-count-preserved : goal.loop-count-preserved
loop-count-preserved c =
    let below = rw c.center_of.ensures at c.if-grid-center_of.false in
    (omega (arith, c.loop-count-test.true), omega (arith, c.loop-count.invariant.1, after_next c.args.grid c.args.tone c.loop-count.count c.loop-count-test.true below))

pub returns : goal.returns
returns c =
    (omega (arith, c.loop-count.invariant.1, after-all c.args.grid c.args.tone c.loop-count.count c.loop-count-test.false), omega arith)
