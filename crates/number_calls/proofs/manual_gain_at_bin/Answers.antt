-- `manual_gain_at_bin` refuses where one of its tests fails, in the order of the refusals, and else
-- answers what its core call ensures. Assumes nothing.
use mathlib.Core.Path.{sym, ◌∙◌}
use borrow.Author.Tests.{not-true, not-false, eq-eqb, ne_eqb}
use Rattle.number_calls.specs.Gates.{manual_gain_at_bin}
use Rattle.number_calls.proofs.manual_gain_at_bin.Goals as goal

pub returns-then-not-size : goal.returns-then-not-size
unfolding manual_gain_at_bin
returns-then-not-size c = simp (sym c.size.ensures ∙ not-true _ c.if-not-size.true-raw)

pub returns-then-not-bin : goal.returns-then-not-bin
unfolding manual_gain_at_bin
returns-then-not-bin c = simp (sym c.size.ensures ∙ not-false _ c.if-not-size.false-raw, sym c.bin.ensures ∙ not-true _ c.if-not-bin.true-raw)

pub returns-then-mask_db-ne-MANUAL_MASK_POINTS : goal.returns-then-mask_db-ne-MANUAL_MASK_POINTS
unfolding manual_gain_at_bin
returns-then-mask_db-ne-MANUAL_MASK_POINTS c = simp (sym c.size.ensures ∙ not-false _ c.if-not-size.false-raw, sym c.bin.ensures ∙ not-false _ c.if-not-bin.false-raw, ne_eqb _ _ c.if-mask_db-ne-MANUAL_MASK_POINTS.true)

pub returns : goal.returns
unfolding manual_gain_at_bin
returns c = rw (c.manual_gain.ensures, sym c.size.ensures ∙ not-false _ c.if-not-size.false-raw, sym c.bin.ensures ∙ not-false _ c.if-not-bin.false-raw, eq-eqb _ _ c.if-mask_db-ne-MANUAL_MASK_POINTS.false)
