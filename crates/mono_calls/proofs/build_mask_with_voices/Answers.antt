-- `build_mask_with_voices` answers as its tests say, leaves the mask as it was where it refuses,
-- and builds it where it is done. Assumes nothing.
use mathlib.Core.Path.{◌≡◌, sym, ◌∙◌}
use mathlib.Core.Bool.{◌&&◌}
use lib.Dec.{eqb}
use lib.ListN.{length}
use borrow.Author.Rules.{rules}
use Rattle.answer.proofs.Tests.{passed-on}
use Rattle.lobes.specs.Distance.{IfLent}
use Rattle.refusals.specs.Masks.{voices_mask_reply}
use Rattle.refusals.proofs.MaskAccepted.{is-done, voices-mask-accepted}
use Rattle.refusals.proofs.MaskAnswers.{first-refuses, voices-mask-answer}
use Rattle.mono_calls.proofs.build_mask_with_voices.Goals as goal

pub returns-in_err-of_settings-clause-result_value :
    goal.returns-in_err-of_settings-clause-result_value
unfolding voices_mask_reply
returns-in_err-of_settings-clause-result_value c =
    passed-on _ _ c.from_residual.ensures.1 ∙ first-refuses _ c.in_err-of_settings.ensures

pub returns-in_err-of_voices-clause-result_value :
    goal.returns-in_err-of_voices-clause-result_value
returns-in_err-of_voices-clause-result_value c =
    let a = c.args in
    let l : c.if-output-bins.sized ≡ (eqb (length a.output.now) c.bins-bins.result && eqb (length a.manual_mask_db.now) 8193) = search rules in
    voices-mask-answer a.manual_mask_db.now a.config c.bins-bins.ensures c.in_ok-of_settings.ensures a.voices a.count (length a.output.now)
    (passed-on _ _ c.from_residual-in_err-of_voices.ensures.1 ∙ c.in_err-of_voices.ensures) l

pub build_one-requires : goal.build_one-requires
unfolding IfLent
build_one-requires c =
    let a = c.args in
    let l : c.if-output-bins.sized ≡ (eqb (length a.output.now) c.bins-bins.result && eqb (length a.manual_mask_db.now) 8193) = search rules in
    let e =
    voices-mask-answer a.manual_mask_db.now a.config c.bins-bins.ensures c.in_ok-of_settings.ensures a.voices a.count (length a.output.now) c.in_ok-of_voices.ensures l in
    let f = voices-mask-accepted a.manual_mask_db.now a.config a.voices a.count (length a.output.now) (is-done _ (sym e)) in
    (f.0.0, f.1, f.0.1, f.2, tt, tt)

pub returns-clause-result_value : goal.returns-clause-result_value
returns-clause-result_value c =
    let a = c.args in
    let l : c.if-output-bins.sized ≡ (eqb (length a.output.now) c.bins-bins.result && eqb (length a.manual_mask_db.now) 8193) = search rules in
    voices-mask-answer a.manual_mask_db.now a.config c.bins-bins.ensures c.in_ok-of_settings.ensures a.voices a.count (length a.output.now) c.in_ok-of_voices.ensures l
