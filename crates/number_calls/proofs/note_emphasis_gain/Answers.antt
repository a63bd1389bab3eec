-- `note_emphasis_gain` refuses where its test fails, and else answers what its core call ensures.
-- Assumes nothing.
use mathlib.Core.Path.{sym, ◌∙◌}
use borrow.Author.Tests.{not-true, not-false}
use Rattle.number_calls.specs.Gates.{note_emphasis_gain}
use Rattle.number_calls.proofs.note_emphasis_gain.Goals as goal

pub returns-then-not-width : goal.returns-then-not-width
unfolding note_emphasis_gain
returns-then-not-width c = simp (sym c.width.ensures ∙ not-true _ c.if-not-width.true-raw)

pub returns : goal.returns
unfolding note_emphasis_gain
returns c = simp (c.emphasis.ensures, sym c.width.ensures ∙ not-false _ c.if-not-width.false-raw)
