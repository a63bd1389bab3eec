-- `motion_compensation_gain` meets its contract: a refusal where the test fails, else what the core
-- ensures. Assumes nothing.
use borrow.Author.Tests.{not-true, not-false}
use Rattle.motion_calls.proofs.motion_compensation_gain.Goals as goal

pub returns-then-not-motion_accepted : goal.returns-then-not-motion_accepted
returns-then-not-motion_accepted c = simp (← c.motion_accepted.ensures, not-true c.motion_accepted.result c.if-not-motion_accepted.true-raw)

pub returns : goal.returns
returns c =
    let accepted = c.motion_accepted in
    simp (← accepted.ensures, not-false accepted.result c.if-not-motion_accepted.false-raw, ← c.compensation_gain.ensures)
