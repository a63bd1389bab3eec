-- `soften_spectral_edges` answers as the chain of its tests says, leaves the output as it was where
-- it refuses, and softens where it is done. Assumes nothing.
use mathlib.Core.Path.{◌≡◌, refl, ap, ◌∙◌}
use borrow.Author.Rules.{rules}
use native.Mathlib.Nat.{le_refl}
use Rattle.answer.specs.Reply.{Reply, refused, of_refusal}
use Rattle.processing_calls.specs.Processing.{soften_reply}
use Rattle.answer.proofs.Tests.{fails, passes, differ, agree, found, none_found}
use Rattle.processing_calls.proofs.soften_spectral_edges.Goals as goal

-- the outcome is the refusal that the reply is
refuses : {outcome refusal reply : Reply} → refusal ≡ reply → outcome ≡ refusal → outcome ≡ reply
refuses e h = h ∙ e

pub returns-then-not-gains_length : goal.returns-then-not-gains_length
unfolding soften_reply
returns-then-not-gains_length c = record { result_value = ap of_refusal c.into.ensures ∙ fails _ _ c.gains_length.ensures c.if-not-gains_length.true-raw; output_after = refl }

pub returns-then-length-output : goal.returns-then-length-output
unfolding soften_reply
returns-then-length-output c =
    let e = passes {z = refused 4 0} _ _ c.gains_length.ensures c.if-not-gains_length.false-raw (differ _ _ c.if-length-output.true) in
    record { result_value = refuses e (search rules); output_after = refl }

pub returns-in-Some : goal.returns-in-Some
unfolding soften_reply
returns-in-Some c =
    record { result_value = ap of_refusal c.at.ensures ∙ passes _ _ c.gains_length.ensures c.if-not-gains_length.false-raw (agree _ _ c.if-length-output.false (found 7 _ c.in-Some.ensures.0 c.in-Some.ensures.1)); output_after = refl }

pub returns : goal.returns
unfolding soften_reply
returns c = record { result_value = passes _ _ c.gains_length.ensures c.if-not-gains_length.false-raw (agree _ _ c.if-length-output.false (none_found _ _ c.in_default.ensures (le_refl _) refl)); output_after = c.soften.ensures }
