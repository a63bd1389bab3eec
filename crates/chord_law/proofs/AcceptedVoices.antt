-- What the stereo call answers, by its groups of tests. Where all of its voices are accepted and at
-- most 128, the answer does not depend on them. Assumes nothing.
use mathlib.Core.Path.{◌≡◌, refl, sym, ap, ◌∙◌, subst}
use mathlib.Core.Bool.{Bool, true, false, cond, not, ◌&&◌}
use mathlib.Core.List.{List, []}
use Prim.Native.Nat.{ℕ, ◌≤◌}
use lib.Dec.{T, eqb}
use lib.ListN.{length, take}
use lib.Seq.{take-length}
use lib.Ieee.{Float}
use borrow.Author.Tests.{le-ltb}
use native.Mathlib.Nat.{le_refl}
use Rattle.lists.specs.Folds.{first_bad}
use Rattle.lists.proofs.Folds.{bad-none}
use Rattle.lists.specs.Totals.{All, all-at}
use Rattle.lists.specs.Entries.{all-places}
use Rattle.answer.specs.Refusal.{LENGTH}
use Rattle.answer.specs.Reply.{Reply, done, refused}
use Rattle.limits.specs.Lengths.{most_voices, manual_mask_points}
use Rattle.scene.specs.declared.MaskVoice.{MaskVoice}
use Rattle.scene.specs.declared.MaskConfig.{MaskConfig}
use Rattle.scene.specs.Accepted.{voice_accepted, no_voice}
use Rattle.mask_calls.specs.LentStereo.{lent_reply}
use Rattle.refusals.specs.Masks.{voices_reply, stereo_reply, settings_reply, table_reply, first, bins}
use Rattle.refusals.proofs.MaskAccepted.{Done, is-done, both-done, voices-done, voice-done}
use Rattle.chord_law.specs.Calls.{Call, Accepted, given, whole}

module _ (m n : ℕ) (curve : List Float) (config : MaskConfig) (table : List Float) where
  -- the lengths that the call asks for
  abbrev pub fits : Bool
  fits =
      (eqb m (bins config) && eqb n (bins config))
      && (eqb (length curve) manual_mask_points && eqb (length table) (bins config))

  -- the tests of the voices among the others
  abbrev pub others : Reply → Reply
  others voices-reply =
      first (settings_reply config) (first voices-reply (table_reply table))

  pub by-voices :
      (xs : List MaskVoice) (k : ℕ)
      → stereo_reply m n curve xs k config table ≡ others (voices_reply xs k fits)
  unfolding stereo_reply
  by-voices xs k = refl

-- ---- voices that are all accepted
module _ (voices : List MaskVoice) (few : length voices ≤ most_voices)
    (within : All (λ v. T (voice_accepted v)) voices) where
  none-outside :
      first_bad (λ index voice. voice_accepted voice) (take (length voices) voices) ≡ length voices
  none-outside =
      ap (first_bad (λ index voice. voice_accepted voice)) (take-length voices)
      ∙ bad-none no_voice (λ index voice. voice_accepted voice) voices
      (λ k l. all-at (λ v. T (voice_accepted v)) voices k no_voice within l)

  all-accepted :
      (lengths : Bool)
      → voices_reply voices (length voices) lengths ≡ cond (not lengths) (refused LENGTH 0) (done [])
  unfolding voices_reply
  all-accepted lengths =
      rw (
        none-outside,
        le-ltb most_voices (length voices) few,
        le-ltb (length voices) (length voices) (le_refl (length voices)),
      ) refl

  pub reply-without-voices :
      (m n : ℕ) (curve : List Float) (config : MaskConfig) (table : List Float)
      → lent_reply m n curve voices config table
      ≡ others m n curve config table
      (cond (not (fits m n curve config table)) (refused LENGTH 0) (done []))
  reply-without-voices m n curve config table =
      by-voices m n curve config table voices (length voices)
      ∙ ap (others m n curve config table) (all-accepted (fits m n curve config table))

-- ---- an accepted call
-- a group of tests that is passed may be left out
left_out : (s v t : Reply) → Done v → first s (first v t) ≡ first s t
left_out (done xs) (done ys) t d = refl
left_out (refused number place) (done ys) t d = refl
left_out s (refused number place) t d = absurd d

module _ (call : Call) (accepted : Accepted (whole call)) where
  abbrev lengths : Bool
  lengths =
      fits call.left-length call.right-length call.curve call.config call.table

  abbrev asked : Reply → Reply
  asked =
      others call.left-length call.right-length call.curve call.config call.table

  abbrev tested : List MaskVoice → ℕ → Reply
  tested voices count = voices_reply voices count lengths

  abbrev pub answered : List MaskVoice → ℕ → Reply
  answered voices count =
      stereo_reply call.left-length call.right-length call.curve voices count
      call.config call.table

  in-groups :
      (voices : List MaskVoice) (count : ℕ) → answered voices count ≡ asked (tested voices count)
  in-groups =
      by-voices call.left-length call.right-length call.curve call.config
      call.table

  passed : Done (tested call.voices call.count)
  passed =
      let v = tested call.voices call.count in
      let all = is-done (asked v) (sym (in-groups call.voices call.count) ∙ accepted) in
      let later = (both-done (settings_reply call.config) _ all).1 in
      (both-done v (table_reply call.table) later).0

  pub given-accepted : All (λ v. T (voice_accepted v)) (given call)
  given-accepted =
      all-places (λ v. T (voice_accepted v)) no_voice (given call)
      (λ i h. voice-done call.voices call.count lengths passed i h)

  -- on other voices that are all accepted, and at most 128, it is accepted too
  pub accepted-on :
      (voices : List MaskVoice) → length voices ≤ most_voices
      → All (λ v. T (voice_accepted v)) voices → answered voices (length voices) ≡ done []
  accepted-on voices few within =
      in-groups voices (length voices)
      ∙ left_out s (tested voices (length voices)) t these
      ∙ sym (left_out s (tested call.voices call.count) t passed)
      ∙ sym (in-groups call.voices call.count)
      ∙ accepted
    where
      s : Reply
      s = settings_reply call.config

      t : Reply
      t = table_reply call.table

      fit : (b : Bool) → T b → Done (cond (not b) (refused LENGTH 0) (done []))
      fit true h = tt
      fit false h = absurd h

      these : Done (tested voices (length voices))
      these =
          subst Done (sym (all-accepted voices few within lengths))
          (fit lengths (voices-done call.voices call.count lengths passed).1)
