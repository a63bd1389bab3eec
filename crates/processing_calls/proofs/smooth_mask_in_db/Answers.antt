-- `smooth_mask_in_db` answers as the chain of its tests says, leaves the gains as they were where
-- it refuses, and moves them where it is done. Assumes nothing.
use mathlib.Core.Path.{refl, ap, ◌∙◌}
use native.Mathlib.Nat.{le_refl}
use Rattle.answer.specs.Reply.{of_refusal}
use Rattle.processing_calls.specs.Processing.{smooth_reply}
use Rattle.answer.proofs.Tests.{fails, passes, differ, agree, found, none_found}
use Rattle.processing_calls.proofs.smooth_mask_in_db.Goals as goal

pub returns-then-not-elapsed : goal.returns-then-not-elapsed
unfolding smooth_reply
returns-then-not-elapsed c = record { result_value = ap of_refusal c.into.ensures ∙ fails _ _ c.elapsed.ensures c.if-not-elapsed.true-raw; current_after = refl }

pub returns-then-not-gains_length : goal.returns-then-not-gains_length
unfolding smooth_reply
returns-then-not-gains_length c =
    record { result_value = ap of_refusal c.into-then-not-gains_length.ensures ∙ passes _ _ c.elapsed.ensures c.if-not-elapsed.false-raw (fails _ _ c.gains_length.ensures c.if-not-gains_length.true-raw); current_after = refl }

pub returns-then-length-target : goal.returns-then-length-target
unfolding smooth_reply
returns-then-length-target c =
    record { result_value = ap of_refusal c.into-then-length-target.ensures ∙ passes _ _ c.elapsed.ensures c.if-not-elapsed.false-raw (passes _ _ c.gains_length.ensures c.if-not-gains_length.false-raw (differ _ _ c.if-length-target.true)); current_after = refl }

pub returns-in-Some : goal.returns-in-Some
unfolding smooth_reply
returns-in-Some c = record {
  result_value = ap of_refusal c.at.ensures ∙ passes _ _ c.elapsed.ensures c.if-not-elapsed.false-raw
      (passes _ _ c.gains_length.ensures c.if-not-gains_length.false-raw (agree _ _ c.if-length-target.false (found 7 _ c.in-Some.ensures.0 c.in-Some.ensures.1)));
  current_after = refl;
}

pub returns : goal.returns
unfolding smooth_reply
returns c = record {
  result_value = passes _ _ c.elapsed.ensures c.if-not-elapsed.false-raw
      (passes _ _ c.gains_length.ensures c.if-not-gains_length.false-raw (agree _ _ c.if-length-target.false (none_found _ _ c.in_default.ensures (le_refl _) refl)));
  current_after = c.smooth.ensures;
}
