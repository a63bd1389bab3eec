-- `build_mask` answers as its tests say, leaves the mask as it was where it refuses, and builds it
-- where it is done. Assumes nothing.
use mathlib.Core.Path.{◌≡◌, sym, ap, ◌∙◌}
use mathlib.Core.Bool.{◌&&◌}
use mathlib.Core.List.{List}
use borrow.Author.Rules.{rules}
use lib.Dec.{eqb, lit≤}
use lib.Ieee.{Float, nan}
use lib.ListN.{length, get_or, take}
use lib.Seq.{take_all}
use Rattle.lists.specs.Maps.{length-tab}
use Rattle.answer.proofs.Tests.{passed-on}
use Rattle.lobes.specs.Distance.{none, IfLent}
use Rattle.lobes.specs.Pan.{mono}
use Rattle.scene.specs.Levels.{level_voice, voices_of}
use Rattle.mask_builder.specs.Mask.{mask_of}
use Rattle.refusals.specs.Masks.{mask_reply}
use Rattle.refusals.proofs.MaskAccepted.{is-done, mask-accepted}
use Rattle.refusals.proofs.MaskAnswers.{first-refuses, mask-answer}
use Rattle.mono_calls.proofs.build_mask.Goals as goal

-- the first 128 of the 128 voices are all of them
all-voices : (levels : List Float) → take 128 (voices_of levels) ≡ voices_of levels
all-voices levels = take_all 128 (voices_of levels) (rw (length-tab (λ note. level_voice note (get_or levels note nan)) 0 128) (lit≤ tt))

pub returns-in_err-of_settings-clause-result_value :
    goal.returns-in_err-of_settings-clause-result_value
unfolding mask_reply
returns-in_err-of_settings-clause-result_value c =
    passed-on _ _ c.from_residual.ensures.1 ∙ first-refuses _ c.in_err-of_settings.ensures

pub returns-in_err-of_levels-clause-result_value :
    goal.returns-in_err-of_levels-clause-result_value
returns-in_err-of_levels-clause-result_value c =
    let a = c.args in
    let g : c.if-manual_mask_db-eq-MANUAL_MASK_POINTS.lent ≡ (eqb (length a.manual_mask_db.now) 8193 && eqb (length a.note_levels.now) 128) = search rules in
    let l : c.if-output-bins.lengths ≡ (eqb (length a.output.now) c.bins-bins.result && c.if-manual_mask_db-eq-MANUAL_MASK_POINTS.lent) = search rules in
    mask-answer a.manual_mask_db.now a.config c.bins-bins.ensures c.in_ok-of_settings.ensures (length a.output.now) a.note_levels.now
    (passed-on _ _ c.from_residual-in_err-of_levels.ensures.1 ∙ c.in_err-of_levels.ensures) l g

pub voices_of-voices-requires : goal.voices_of-voices-requires
voices_of-voices-requires c =
    let a = c.args in
    let g : c.if-manual_mask_db-eq-MANUAL_MASK_POINTS.lent ≡ (eqb (length a.manual_mask_db.now) 8193 && eqb (length a.note_levels.now) 128) = search rules in
    let l : c.if-output-bins.lengths ≡ (eqb (length a.output.now) c.bins-bins.result && c.if-manual_mask_db-eq-MANUAL_MASK_POINTS.lent) = search rules in
    let e = mask-answer a.manual_mask_db.now a.config c.bins-bins.ensures c.in_ok-of_settings.ensures (length a.output.now) a.note_levels.now c.in_ok-of_levels.ensures l g in
    (mask-accepted a.manual_mask_db.now a.config (length a.output.now) a.note_levels.now (is-done _ (sym e))).1

pub build_one-requires : goal.build_one-requires
unfolding IfLent
build_one-requires c =
    let a = c.args in
    let g : c.if-manual_mask_db-eq-MANUAL_MASK_POINTS.lent ≡ (eqb (length a.manual_mask_db.now) 8193 && eqb (length a.note_levels.now) 128) = search rules in
    let l : c.if-output-bins.lengths ≡ (eqb (length a.output.now) c.bins-bins.result && c.if-manual_mask_db-eq-MANUAL_MASK_POINTS.lent) = search rules in
    let e = mask-answer a.manual_mask_db.now a.config c.bins-bins.ensures c.in_ok-of_settings.ensures (length a.output.now) a.note_levels.now c.in_ok-of_levels.ensures l g in
    let f = mask-accepted a.manual_mask_db.now a.config (length a.output.now) a.note_levels.now (is-done _ (sym e)) in
    (f.0.0, lit≤ tt, f.0.1, f.2, tt, tt)

pub returns-clause-result_value : goal.returns-clause-result_value
returns-clause-result_value c =
    let a = c.args in
    let g : c.if-manual_mask_db-eq-MANUAL_MASK_POINTS.lent ≡ (eqb (length a.manual_mask_db.now) 8193 && eqb (length a.note_levels.now) 128) = search rules in
    let l : c.if-output-bins.lengths ≡ (eqb (length a.output.now) c.bins-bins.result && c.if-manual_mask_db-eq-MANUAL_MASK_POINTS.lent) = search rules in
    mask-answer a.manual_mask_db.now a.config c.bins-bins.ensures c.in_ok-of_settings.ensures (length a.output.now) a.note_levels.now c.in_ok-of_levels.ensures l g

pub returns-clause-output_after : goal.returns-clause-output_after
returns-clause-output_after c =
    let a = c.args in
    c.build_one.ensures ∙ ap (mask_of a.manual_mask_db.now a.config none mono) (ap (take 128) c.voices_of-voices.ensures ∙ all-voices a.note_levels.now)
