-- `PreparedSpectrum::new` answers as the chain of its tests says, leaves the block as it was where
-- it refuses, and fills it where it is done. Assumes nothing.
use mathlib.Core.Path.{refl, sym, ap, ◌∙◌}
use native.Mathlib.Nat.{le_refl}
use native.Mathlib.Omega.{arith}
use lib.ListN.{length}
use Rattle.answer.specs.Reply.{of_refusal}
use Rattle.processing_calls.specs.Processing.{prepared_reply}
use Rattle.answer.proofs.Tests.{fails, passes, differ, agree, found, none_found}
use Rattle.limits.proofs.Accepted.{passed, size-at-most, overlap-positive}
use Rattle.processing_calls.proofs.PreparedSpectrum.new.Goals as goal

pub returns-then-not-size : goal.returns-then-not-size
unfolding prepared_reply
returns-then-not-size c = record { result_value = ap of_refusal c.into.ensures ∙ fails _ _ c.size.ensures c.if-not-size.true-raw; block_after = refl }

pub returns-then-not-rate : goal.returns-then-not-rate
unfolding prepared_reply
returns-then-not-rate c =
    record { result_value = ap of_refusal c.into-then-not-rate.ensures ∙ passes _ _ c.size.ensures c.if-not-size.false-raw (fails _ _ c.rate.ensures c.if-not-rate.true-raw); block_after = refl }

pub returns-then-size-smooth_analysis_window : goal.returns-then-size-smooth_analysis_window
unfolding prepared_reply
returns-then-size-smooth_analysis_window c =
    record { result_value = ap of_refusal c.into-then-size-smooth_analysis_window.ensures ∙ passes _ _ c.size.ensures c.if-not-size.false-raw (passes _ _ c.rate.ensures c.if-not-rate.false-raw (differ _ _ c.if-size-smooth_analysis_window.true)); block_after = refl }

pub block_length-requires : goal.block_length-requires
block_length-requires c = size-at-most _ (passed c.size.ensures c.if-not-size.false-raw)

pub returns-then-block-block_length : goal.returns-then-block-block_length
unfolding prepared_reply
returns-then-block-block_length c = record {
  result_value = ap of_refusal c.into-then-block-block_length.ensures ∙ passes _ _ c.size.ensures c.if-not-size.false-raw
      (passes _ _ c.rate.ensures c.if-not-rate.false-raw (agree _ _ c.if-size-smooth_analysis_window.false (differ _ _ (λ e. c.if-block-block_length.true (e ∙ sym c.block_length.ensures)))));
  block_after = refl;
}

pub returns-in-Some : goal.returns-in-Some
unfolding prepared_reply
returns-in-Some c = record {
  result_value = ap of_refusal c.at.ensures ∙ passes _ _ c.size.ensures c.if-not-size.false-raw
      (passes _ _ c.rate.ensures c.if-not-rate.false-raw
      (agree _ _ c.if-size-smooth_analysis_window.false (agree _ _ (c.if-block-block_length.false ∙ c.block_length.ensures) (found 7 _ c.in-Some.ensures.0 c.in-Some.ensures.1))));
  block_after = refl;
}

pub returns-then-not-overlap : goal.returns-then-not-overlap
unfolding prepared_reply
returns-then-not-overlap c = record {
  result_value = ap of_refusal c.into-then-not-overlap.ensures ∙ passes _ _ c.size.ensures c.if-not-size.false-raw
      (passes _ _ c.rate.ensures c.if-not-rate.false-raw
      (agree _ _ c.if-size-smooth_analysis_window.false
      (agree _ _ (c.if-block-block_length.false ∙ c.block_length.ensures)
      (none_found _ _ c.in_default.ensures (le_refl _) (fails _ _ c.overlap.ensures c.if-not-overlap.true-raw)))));
  block_after = refl;
}

pub fill_block-requires : goal.fill_block-requires
fill_block-requires c =
    ((size-at-most _ (passed c.size.ensures c.if-not-size.false-raw)), sym c.if-size-smooth_analysis_window.false, c.if-block-block_length.false ∙ c.block_length.ensures, overlap-positive _ _ (passed c.overlap.ensures c.if-not-overlap.false-raw))

pub coherent_gain-requires : goal.coherent_gain-requires
coherent_gain-requires c = size-at-most _ (passed c.size.ensures c.if-not-size.false-raw)

pub coherent_gain-requires-2 : goal.coherent_gain-requires-2
coherent_gain-requires-2 c =
    omega (arith, size-at-most (length c.args.window.now) (passed c.size.ensures c.if-not-size.false-raw), c.if-size-smooth_analysis_window.false)

pub returns : goal.returns
unfolding prepared_reply
returns c = record {
  result_value = passes _ _ c.size.ensures c.if-not-size.false-raw
      (passes _ _ c.rate.ensures c.if-not-rate.false-raw
      (agree _ _ c.if-size-smooth_analysis_window.false
      (agree _ _ (c.if-block-block_length.false ∙ c.block_length.ensures)
      (none_found _ _ c.in_default.ensures (le_refl _) (passes _ _ c.overlap.ensures c.if-not-overlap.false-raw (cc (c.coherent_gain.ensures, c.coherent_gain-2.ensures)))))));
  block_after = c.fill_block.ensures;
}
