-- `build_mask_with_voices_precomputed` answers as its tests say, leaves the mask as it was where it
-- refuses, and builds it where it is done. Assumes nothing.
use mathlib.Core.Path.{◌≡◌, sym, ◌∙◌}
use mathlib.Core.Bool.{◌&&◌}
use borrow.Author.Rules.{rules}
use lib.Dec.{eqb}
use lib.ListN.{length}
use Rattle.answer.proofs.Tests.{passed-on}
use Rattle.lobes.specs.Distance.{IfLent}
use Rattle.mask_builder.proofs.SoundScenes.{sound-scene}
use Rattle.refusals.specs.Masks.{tabled_mask_reply}
use Rattle.refusals.proofs.MaskAccepted.{is-done, tabled-mask-accepted}
use Rattle.refusals.proofs.MaskAnswers.{first-refuses, second-answers, tabled-mask-answer}
use Rattle.refusals.proofs.Parameters.{voices-f32, settings-f32}
use Rattle.refusals.proofs.RealScene.{tabled-mask-scene, tabled-mask-table}
use Rattle.mono_calls.proofs.build_mask_with_voices_precomputed.Goals as goal

pub returns-in_err-of_settings-clause-result_value :
    goal.returns-in_err-of_settings-clause-result_value
unfolding tabled_mask_reply
returns-in_err-of_settings-clause-result_value c =
    passed-on _ _ c.from_residual.ensures.1 ∙ first-refuses _ c.in_err-of_settings.ensures

pub returns-in_err-of_voices-clause-result_value :
    goal.returns-in_err-of_voices-clause-result_value
returns-in_err-of_voices-clause-result_value c =
    let a = c.args in
    let g : c.if-manual_mask_db-eq-MANUAL_MASK_POINTS.lent ≡ (eqb (length a.manual_mask_db.now) 8193 && eqb (length a.table.now) c.bins-bins.result) = search rules in
    let l : c.if-output-bins.lengths ≡ (eqb (length a.output.now) c.bins-bins.result && c.if-manual_mask_db-eq-MANUAL_MASK_POINTS.lent) = search rules in
    passed-on _ _ c.from_residual-in_err-of_voices.ensures.1
    ∙ tabled-mask-answer a.manual_mask_db.now a.config c.bins-bins.ensures c.in_ok-of_settings.ensures a.voices a.count a.table.now
    (first-refuses _ c.in_err-of_voices.ensures) g (length a.output.now) l

pub returns-in_err-of_table-clause-result_value : goal.returns-in_err-of_table-clause-result_value
returns-in_err-of_table-clause-result_value c =
    let a = c.args in
    let g : c.if-manual_mask_db-eq-MANUAL_MASK_POINTS.lent ≡ (eqb (length a.manual_mask_db.now) 8193 && eqb (length a.table.now) c.bins-bins.result) = search rules in
    let l : c.if-output-bins.lengths ≡ (eqb (length a.output.now) c.bins-bins.result && c.if-manual_mask_db-eq-MANUAL_MASK_POINTS.lent) = search rules in
    passed-on _ _ c.from_residual-in_err-of_table.ensures.1
    ∙ tabled-mask-answer a.manual_mask_db.now a.config c.bins-bins.ensures c.in_ok-of_settings.ensures a.voices a.count a.table.now
    (second-answers c.in_ok-of_voices.ensures c.in_err-of_table.ensures) g (length a.output.now) l

pub build_one-requires : goal.build_one-requires
unfolding IfLent
build_one-requires c =
    let a = c.args in
    let g : c.if-manual_mask_db-eq-MANUAL_MASK_POINTS.lent ≡ (eqb (length a.manual_mask_db.now) 8193 && eqb (length a.table.now) c.bins-bins.result) = search rules in
    let l : c.if-output-bins.lengths ≡ (eqb (length a.output.now) c.bins-bins.result && c.if-manual_mask_db-eq-MANUAL_MASK_POINTS.lent) = search rules in
    let e =
    tabled-mask-answer a.manual_mask_db.now a.config c.bins-bins.ensures c.in_ok-of_settings.ensures a.voices a.count a.table.now
    (second-answers c.in_ok-of_voices.ensures c.in_ok-of_table.ensures) g (length a.output.now) l in
    let d = is-done _ (sym e) in
    let f = tabled-mask-accepted a.manual_mask_db.now a.config a.voices a.count a.table.now (length a.output.now) d in
    let scene = tabled-mask-scene a.manual_mask_db.now a.voices a.count a.config a.table.now (length a.output.now) d (voices-f32 128 a.voices _ c.well_formed.1.1.0) (settings-f32 a.config _ c.well_formed.1.1.1.1.0) in
    let table = tabled-mask-table a.manual_mask_db.now a.voices a.count a.config a.table.now (length a.output.now) d (λ i l. c.shared_slice_known-2-1.given i) in
    let sound = sound-scene a.config _ a.table.now f.0.1 scene.voices-real scene.settings-real table.entries table.entry-real in
    (f.0.0, f.1, f.0.1, f.3, assumption f.2, assumption sound)

pub returns-clause-result_value : goal.returns-clause-result_value
returns-clause-result_value c =
    let a = c.args in
    let g : c.if-manual_mask_db-eq-MANUAL_MASK_POINTS.lent ≡ (eqb (length a.manual_mask_db.now) 8193 && eqb (length a.table.now) c.bins-bins.result) = search rules in
    let l : c.if-output-bins.lengths ≡ (eqb (length a.output.now) c.bins-bins.result && c.if-manual_mask_db-eq-MANUAL_MASK_POINTS.lent) = search rules in
    tabled-mask-answer a.manual_mask_db.now a.config c.bins-bins.ensures c.in_ok-of_settings.ensures a.voices a.count a.table.now
    (second-answers c.in_ok-of_voices.ensures c.in_ok-of_table.ensures) g (length a.output.now) l
