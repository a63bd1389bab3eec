-- `pitches_allowed` meets its contract: the test from here on answers what the whole test does.
-- Assumes nothing.
use mathlib.Core.Path.{sym, ◌∙◌}
use native.Mathlib.Omega.{arith}
use Rattle.record_voices.proofs.Steps.{allowed-next, allowed-not, allowed-end, allowed-start}
use Rattle.record_voices.proofs.pitches_allowed.Goals as goal

pub loop-i-init : goal.loop-i-init
loop-i-init c =
    let a = c.args in
    allowed-start a.«record».now a.at a.count

pub overflow_mul-i : goal.overflow_mul-i
overflow_mul-i c = omega arith

pub overflow_add-at : goal.overflow_add-at
overflow_add-at c = omega arith

pub bounds-record-at : goal.bounds-record-at
bounds-record-at c = omega arith

pub loop-i-preserved : goal.loop-i-preserved
loop-i-preserved c =
    allowed-next _ _ _ _ c.loop-i-test.true (sym c.pitch_allowed.ensures ∙ c.if-not-pitch_allowed.false)
    ∙ c.loop-i.invariant

pub returns-then-not-pitch_allowed : goal.returns-then-not-pitch_allowed
returns-then-not-pitch_allowed c =
    allowed-not _ _ _ _ c.loop-i-test.true (sym c.pitch_allowed.ensures ∙ c.if-not-pitch_allowed.true)
    ∙ c.loop-i.invariant

pub returns : goal.returns
returns c = allowed-end _ _ _ c.loop-i-test.false ∙ c.loop-i.invariant
