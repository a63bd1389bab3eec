-- `note_gate_gain` refuses where one of its tests fails, and else answers what its core call
-- ensures. Assumes nothing.
use mathlib.Core.Path.{sym, ◌∙◌}
use borrow.Author.Tests.{not-true, not-false}
use Rattle.number_calls.specs.Gates.{note_gate_gain}
use Rattle.number_calls.proofs.note_gate_gain.Goals as goal

pub returns-then-not-note_depth : goal.returns-then-not-note_depth
unfolding note_gate_gain
returns-then-not-note_depth c = simp (sym c.note_depth.ensures ∙ not-true _ c.if-not-note_depth.true-raw)

pub returns-then-not-width : goal.returns-then-not-width
unfolding note_gate_gain
returns-then-not-width c = simp (sym c.note_depth.ensures ∙ not-false _ c.if-not-note_depth.false-raw, sym c.width.ensures ∙ not-true _ c.if-not-width.true-raw)

pub returns-then-not-is_finite : goal.returns-then-not-is_finite
unfolding note_gate_gain
returns-then-not-is_finite c = simp (sym c.note_depth.ensures ∙ not-false _ c.if-not-note_depth.false-raw, sym c.width.ensures ∙ not-false _ c.if-not-width.false-raw, sym c.is_finite.ensures ∙ not-true _ c.if-not-is_finite.true-raw)

pub returns : goal.returns
unfolding note_gate_gain
returns c = simp (c.gate.ensures, sym c.note_depth.ensures ∙ not-false _ c.if-not-note_depth.false-raw, sym c.width.ensures ∙ not-false _ c.if-not-width.false-raw, sym c.is_finite.ensures ∙ not-false _ c.if-not-is_finite.false-raw)
