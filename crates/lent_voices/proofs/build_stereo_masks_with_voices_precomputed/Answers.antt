-- The stereo call on a lent slice meets its contract: the array that `gather` fills, and the
-- slice's length as the count, are heard as the slice itself (proofs/Heard.antt). Assumes nothing.
use Rattle.std.proofs.Common.{◌≡◌, ℕ, List, length, take, refl, ap, ◌∙◌, subst}
use Rattle.std.specs.Float.{Float}
use Rattle.answer.specs.Reply.{Reply}
use Rattle.answer.specs.Written.{written}
use Rattle.scene.specs.declared.MaskVoice.{MaskVoice}
use Rattle.scene.specs.declared.MaskConfig.{MaskConfig}
use Rattle.scene.specs.Gathered.{gathered}
use Rattle.lobes.specs.Distance.{lent}
use Rattle.lobes.specs.Pan as side
use Rattle.mask_builder.specs.Mask.{mask_of}
use Rattle.refusals.specs.Masks.{stereo_reply}
use Rattle.refusals.proofs.MaskAccepted.{Done}
use Rattle.mask_calls.specs.LentStereo.{lent_mask}
use Rattle.lent_voices.proofs.Heard.{stereo-same, stereo-few, written_same}
use Rattle.lent_voices.proofs.build_stereo_masks_with_voices_precomputed.Goals as goal

-- an answer and a mask of the array are those of the slice
module _ (m n : ℕ) (curve : List Float) (voices array : List MaskVoice) (config : MaskConfig)
    (table : List Float) (filled : array ≡ gathered voices) where
  answered :
      (reply : Reply) → reply ≡ stereo_reply m n curve array (length voices) config table
      → reply ≡ stereo_reply m n curve (gathered voices) (length voices) config table
  answered reply e =
      e ∙ ap (λ (heard : List MaskVoice). stereo_reply m n curve heard (length voices) config table) filled

  left :
      (reply : Reply) (one : side.Side) (old new : List Float)
      → reply ≡ stereo_reply m n curve array (length voices) config table
      → new ≡ written reply (mask_of curve config (lent table) one (take (length voices) array)) old
      → new ≡ written reply (lent_mask one curve voices config table) old
  left reply one old new e w =
      w
      ∙ ap (λ (heard : List MaskVoice).
      written reply (mask_of curve config (lent table) one (take (length voices) heard)) old) filled
      ∙ written_same voices (length voices) refl (mask_of curve config (lent table) one) old reply
      (λ d. stereo-few voices (length voices) refl m n curve config table (subst Done (answered reply e) d))

pub returns-clause-result_value : goal.returns-clause-result_value
returns-clause-result_value c =
    let a = c.args in
    let voices = a.voices.now in
    answered (length a.left.now) (length a.right.now) a.manual_mask_db.now voices c.gather.result a.config a.table.now c.gather.ensures _
    c.build_stereo_masks_with_voices_precomputed.ensures.result_value
    ∙ stereo-same voices (length voices) refl (length a.left.now) (length a.right.now) a.manual_mask_db.now a.config a.table.now

pub returns-clause-left_after : goal.returns-clause-left_after
returns-clause-left_after c =
    let a = c.args in
    let called = c.build_stereo_masks_with_voices_precomputed.ensures in
    left (length a.left.now) (length a.right.now) a.manual_mask_db.now a.voices.now c.gather.result a.config a.table.now c.gather.ensures _ side.left
    a.left.now _ called.result_value called.left_after

pub returns-clause-right_after : goal.returns-clause-right_after
returns-clause-right_after c =
    let a = c.args in
    let called = c.build_stereo_masks_with_voices_precomputed.ensures in
    left (length a.left.now) (length a.right.now) a.manual_mask_db.now a.voices.now c.gather.result a.config a.table.now c.gather.ensures _ side.right
    a.right.now _ called.result_value called.right_after
