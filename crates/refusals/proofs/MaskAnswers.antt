-- The outcome that a mask builder's code comes to, test by test, is the reply that its definition
-- gives. Assumes nothing.
use mathlib.Core.Path.{◌≡◌, refl}
use mathlib.Core.Bool.{Bool, ◌&&◌}
use mathlib.Core.List.{List, []}
use Prim.Native.Nat.{ℕ}
use lib.Dec.{eqb}
use lib.Ieee.{Float}
use lib.ListN.{length}
use Rattle.answer.specs.Reply.{Reply, done, refused}
use Rattle.limits.specs.Lengths.{manual_mask_points, midi_notes}
use Rattle.scene.specs.declared.MaskVoice.{MaskVoice}
use Rattle.scene.specs.declared.MaskConfig.{MaskConfig}
use Rattle.refusals.specs.Masks.{bins, first, settings_reply, voices_reply, table_reply, levels_reply, mask_reply, voices_mask_reply, tabled_mask_reply, stereo_reply}

-- of two groups of tests the first refuses, or it is done and the second answers
pub first-refuses : {number place : ℕ} {one : Reply} (two : Reply) → refused number place ≡ one → refused number place ≡ first one two
first-refuses two e = rw (← e) refl

pub second-answers : {outcome one two : Reply} → done [] ≡ one → outcome ≡ two → outcome ≡ first one two
second-answers e h = rw (← e) h

-- the settings are accepted; `b` is the number of bins as the code works it out
module _ (curve : List Float) (config : MaskConfig) {b : ℕ} (e : b ≡ bins config) {outcome : Reply} (s : done [] ≡ settings_reply config) where
  pub mask-answer : (n : ℕ) (levels : List Float) {lengths lent : Bool} → outcome ≡ levels_reply levels lengths
      → lengths ≡ (eqb n b && lent) → lent ≡ (eqb (length curve) manual_mask_points && eqb (length levels) midi_notes) → outcome ≡ mask_reply n curve levels config
  unfolding mask_reply
  mask-answer n levels t l g = second-answers s (rw (t, l, g, e) refl)

  module _ (voices : List MaskVoice) (count : ℕ) {lengths : Bool} where
    pub voices-mask-answer : (n : ℕ) → outcome ≡ voices_reply voices count lengths → lengths ≡ (eqb n b && eqb (length curve) manual_mask_points)
        → outcome ≡ voices_mask_reply n curve voices count config
    unfolding voices_mask_reply
    voices-mask-answer n t l = second-answers s (rw (t, l, e) refl)

    module _ (table : List Float) {lent : Bool} (t : outcome ≡ first (voices_reply voices count lengths) (table_reply table))
        (g : lent ≡ (eqb (length curve) manual_mask_points && eqb (length table) b)) where
      pub tabled-mask-answer : (n : ℕ) → lengths ≡ (eqb n b && lent) → outcome ≡ tabled_mask_reply n curve voices count config table
      unfolding tabled_mask_reply
      tabled-mask-answer n l = second-answers s (rw (t, l, g, e) refl)

      pub stereo-answer : (m n : ℕ) {outputs : Bool} → lengths ≡ (outputs && lent) → outputs ≡ (eqb m b && eqb n b)
          → outcome ≡ stereo_reply m n curve voices count config table
      unfolding stereo_reply
      stereo-answer m n l w = second-answers s (rw (t, l, g, w, e) refl)
