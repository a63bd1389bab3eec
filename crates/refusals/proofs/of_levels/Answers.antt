-- `of_levels` meets its contract, test by test. Assumes nothing.
use mathlib.Core.Path.{refl, ap, ◌∙◌}
use native.Mathlib.Nat.{le_refl}
use Rattle.answer.specs.Reply.{of_refusal}
use Rattle.answer.proofs.Tests.{found, none_found}
use Rattle.refusals.specs.Masks.{levels_reply}
use Rattle.refusals.proofs.of_levels.Goals as goal

pub returns-then-not-lengths : goal.returns-then-not-lengths
unfolding levels_reply
returns-then-not-lengths c = ap of_refusal c.into.ensures ∙ simp c.if-not-lengths.true-raw

pub returns-in-Some : goal.returns-in-Some
unfolding levels_reply
returns-in-Some c =
    ap of_refusal c.at.ensures
    ∙ simp c.if-not-lengths.false-raw (found 7 _ c.in-Some.ensures.0 c.in-Some.ensures.1)

pub returns : goal.returns
unfolding levels_reply
returns c = simp c.if-not-lengths.false-raw (none_found _ _ c.in_default.ensures (le_refl _) refl)
