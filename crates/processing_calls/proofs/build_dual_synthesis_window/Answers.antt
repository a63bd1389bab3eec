-- `build_dual_synthesis_window` answers as the chain of its tests says, leaves the synthesis window
-- as it was where it refuses, and where it is done leaves the dual, which is one in document 01's
-- sense. Assumes nothing.
use mathlib.Core.Path.{refl, ap, subst, ◌∙◌}
use native.Mathlib.Nat.{le_refl}
use Prim.Native.Nat.{ℕ, ◌≤◌}
use lib.ListN.{length}
use Rattle.answer.specs.Reply.{of_refusal}
use Rattle.processing_calls.specs.Processing.{dual_reply}
use Rattle.answer.proofs.Tests.{fails, passes, differ, agree, found, none_found, no-refusal}
use Rattle.limits.proofs.Accepted.{passed, overlap-positive}
use Rattle.processing_calls.proofs.DualWindow.{accepted-is-dual}
use Rattle.processing_calls.proofs.build_dual_synthesis_window.Goals as goal

pub returns-then-not-window_length : goal.returns-then-not-window_length
unfolding dual_reply
returns-then-not-window_length c = record { result_value = ap of_refusal c.into.ensures ∙ fails _ _ c.window_length.ensures c.if-not-window_length.true-raw; synthesis_after = refl; dual = no-refusal }

pub returns-then-length-synthesis : goal.returns-then-length-synthesis
unfolding dual_reply
returns-then-length-synthesis c = record { result_value = ap of_refusal c.into-then-length-synthesis.ensures ∙ passes _ _ c.window_length.ensures c.if-not-window_length.false-raw (differ _ _ c.if-length-synthesis.true); synthesis_after = refl; dual = no-refusal }

pub returns-in-Some : goal.returns-in-Some
unfolding dual_reply
returns-in-Some c = record { result_value = ap of_refusal c.at.ensures ∙ passes _ _ c.window_length.ensures c.if-not-window_length.false-raw (agree _ _ c.if-length-synthesis.false (found 7 _ c.in-Some.ensures.0 c.in-Some.ensures.1)); synthesis_after = refl; dual = no-refusal }

pub returns-then-not-overlap : goal.returns-then-not-overlap
unfolding dual_reply
returns-then-not-overlap c = record {
  result_value = ap of_refusal c.into-then-not-overlap.ensures ∙ passes _ _ c.window_length.ensures c.if-not-window_length.false-raw
      (agree _ _ c.if-length-synthesis.false (none_found _ _ c.in_default.ensures (le_refl _) (fails _ _ c.overlap.ensures c.if-not-overlap.true-raw)));
  synthesis_after = refl;
  dual = no-refusal;
}

pub dual_window-requires : goal.dual_window-requires
dual_window-requires c =
    (c.if-length-synthesis.false, overlap-positive _ _ (passed c.overlap.ensures c.if-not-overlap.false-raw))

pub returns : goal.returns
unfolding dual_reply
returns c =
    let w = c.args.analysis.now in record {
      result_value = passes _ _ c.window_length.ensures c.if-not-window_length.false-raw
          (agree _ _ c.if-length-synthesis.false (none_found _ _ c.in_default.ensures (le_refl _) (passes _ _ c.overlap.ensures c.if-not-overlap.false-raw refl)));
      synthesis_after = c.dual_window.ensures;
      dual = λ z.
          accepted-is-dual w _ c.args.overlap (subst (λ (i : ℕ). length w ≤ i) c.in_default.ensures (le_refl _)) (passed c.overlap.ensures c.if-not-overlap.false-raw)
          (λ i l. c.shared_slice_known-1.given i) c.dual_window.ensures;
    }
