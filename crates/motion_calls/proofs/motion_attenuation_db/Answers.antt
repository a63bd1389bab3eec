-- `motion_attenuation_db` meets its contract: a refusal where a test fails, else what the core
-- ensures. Assumes nothing.
use borrow.Author.Tests.{not-true, not-false}
use Rattle.motion_calls.proofs.motion_attenuation_db.Goals as goal

pub returns-then-not-frequency : goal.returns-then-not-frequency
returns-then-not-frequency c = simp (← c.frequency.ensures, not-true c.frequency.result c.if-not-frequency.true-raw)

pub returns-then-not-motion_accepted : goal.returns-then-not-motion_accepted
returns-then-not-motion_accepted c =
    let frequency = c.frequency in
    let accepted = c.motion_accepted in
    simp (← frequency.ensures, not-false frequency.result c.if-not-frequency.false-raw, ← accepted.ensures, not-true accepted.result c.if-not-motion_accepted.true-raw)

pub returns : goal.returns
returns c =
    let frequency = c.frequency in
    let accepted = c.motion_accepted in
    simp (← frequency.ensures, not-false frequency.result c.if-not-frequency.false-raw, ← accepted.ensures, not-false accepted.result c.if-not-motion_accepted.false-raw, ← c.attenuation_db.ensures)
