-- `db_to_gain` refuses where its test fails, otherwise answers what its core call ensures. Assumes
-- nothing.
use mathlib.Core.Path.{sym, ◌∙◌}
use borrow.Author.Tests.{not-true, not-false}
use Rattle.oiko_dsp.specs.Calls.{db_to_gain}
use Rattle.oiko_dsp.proofs.db_to_gain.Goals as goal

pub returns-then-not-decibels : goal.returns-then-not-decibels
unfolding db_to_gain
returns-then-not-decibels c = simp (sym c.decibels.ensures ∙ not-true _ c.if-not-decibels.true-raw)

pub returns : goal.returns
unfolding db_to_gain
returns c = simp (c.single_gain.ensures, sym c.decibels.ensures ∙ not-false _ c.if-not-decibels.false-raw)
