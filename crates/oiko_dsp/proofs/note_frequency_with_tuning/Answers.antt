-- `note_frequency_with_tuning` refuses where one of its tests fails, otherwise answers what its
-- core call ensures. Assumes nothing.
use mathlib.Core.Path.{sym, ◌∙◌}
use borrow.Author.Tests.{not-true, not-false}
use Rattle.oiko_dsp.specs.Calls.{note_frequency_with_tuning}
use Rattle.oiko_dsp.proofs.note_frequency_with_tuning.Goals as goal

pub returns-then-not-note : goal.returns-then-not-note
unfolding note_frequency_with_tuning
returns-then-not-note c = simp (sym c.note.ensures ∙ not-true _ c.if-not-note.true-raw)

pub returns-then-not-tuning : goal.returns-then-not-tuning
unfolding note_frequency_with_tuning
returns-then-not-tuning c = simp (sym c.note.ensures ∙ not-false _ c.if-not-note.false-raw, sym c.tuning.ensures ∙ not-true _ c.if-not-tuning.true-raw)

pub returns : goal.returns
unfolding note_frequency_with_tuning
returns c = simp (c.note_hertz.ensures, sym c.note.ensures ∙ not-false _ c.if-not-note.false-raw, sym c.tuning.ensures ∙ not-false _ c.if-not-tuning.false-raw)
