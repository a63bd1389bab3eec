-- `of_table` meets its contract, by its test. Assumes nothing.
use mathlib.Core.Path.{refl, ap, sym, ◌∙◌}
use native.Mathlib.Nat.{le_refl}
use Rattle.answer.specs.Reply.{of_refusal}
use Rattle.answer.proofs.Tests.{found, none_found}
use Rattle.refusals.specs.Masks.{table_reply}
use Rattle.refusals.proofs.of_table.Goals as goal

pub returns-then-none_outside : goal.returns-then-none_outside
unfolding table_reply
returns-then-none_outside c = none_found _ _ (sym (c.none_outside.ensures c.if-none_outside.true)) (le_refl _) refl

pub returns-in-Some : goal.returns-in-Some
unfolding table_reply
returns-in-Some c = ap of_refusal c.at.ensures ∙ found 6 _ c.in-Some.ensures.0 c.in-Some.ensures.1

pub returns : goal.returns
unfolding table_reply
returns c = none_found _ _ c.in_default.ensures (le_refl _) refl
