-- For the array that a list of voices fills, and a count that is the list's length, the mask
-- builders answer and write what they do for the list itself: more than 128 voices are refused, and
-- of at most 128 they read the first entries of the array, as many as the list has. Assumes
-- nothing.
use mathlib.Core.Path.{◌≡◌, refl, ap}
use mathlib.Core.Bool.{Bool}
use mathlib.Core.List.{List}
use Prim.Native.Nat.{ℕ, ◌≤◌}
use lib.Ieee.{Float}
use lib.ListN.{length, take}
use Rattle.answer.specs.Reply.{Reply, done, refused}
use Rattle.answer.specs.Written.{written}
use Rattle.scene.specs.declared.MaskVoice.{MaskVoice}
use Rattle.scene.specs.declared.MaskConfig.{MaskConfig}
use Rattle.refusals.specs.Masks.{first, settings_reply, voices_reply, table_reply}
use Rattle.refusals.specs.Masks.{voices_mask_reply, tabled_mask_reply, stereo_reply}
use Rattle.refusals.proofs.Heard.{all-heard, voices-same}
use Rattle.refusals.proofs.MaskAccepted.{Done, both-done, voices-done}
use Rattle.scene.specs.Gathered.{gathered}

module _ (voices : List MaskVoice) (count : ℕ) (counted : count ≡ length voices) where
  -- ---- the replies
  pub mono-same :
      (n : ℕ) (curve : List Float) (config : MaskConfig)
      → voices_mask_reply n curve (gathered voices) count config
      ≡ voices_mask_reply n curve voices count config
  unfolding voices_mask_reply
  mono-same n curve config =
      ap (λ (r : Reply). first (settings_reply config) r) (voices-same voices count counted _)

  pub tabled-same :
      (n : ℕ) (curve : List Float) (config : MaskConfig) (table : List Float)
      → tabled_mask_reply n curve (gathered voices) count config table
      ≡ tabled_mask_reply n curve voices count config table
  unfolding tabled_mask_reply
  tabled-same n curve config table =
      ap (λ (r : Reply). first (settings_reply config) (first r (table_reply table)))
      (voices-same voices count counted _)

  pub stereo-same :
      (m n : ℕ) (curve : List Float) (config : MaskConfig) (table : List Float)
      → stereo_reply m n curve (gathered voices) count config table
      ≡ stereo_reply m n curve voices count config table
  unfolding stereo_reply
  stereo-same m n curve config table =
      ap (λ (r : Reply). first (settings_reply config) (first r (table_reply table)))
      (voices-same voices count counted _)

  -- ---- a call that is done was given at most 128 voices
  few :
      (config : MaskConfig) (lengths : Bool) (rest : Reply)
      → Done (first (settings_reply config)
      (first (voices_reply (gathered voices) count lengths) rest))
      → count ≤ 128
  few config lengths rest d =
      let heard =
      (both-done (settings_reply config) (first (voices_reply (gathered voices) count lengths) rest)
      d).1 in
      (voices-done (gathered voices) count lengths
      (both-done (voices_reply (gathered voices) count lengths) rest heard).0).0

  pub mono-few :
      (n : ℕ) (curve : List Float) (config : MaskConfig)
      → Done (voices_mask_reply n curve (gathered voices) count config) → count ≤ 128
  unfolding voices_mask_reply
  mono-few n curve config d =
      (voices-done (gathered voices) count _ (both-done (settings_reply config) _ d).1).0

  pub tabled-few :
      (n : ℕ) (curve : List Float) (config : MaskConfig) (table : List Float)
      → Done (tabled_mask_reply n curve (gathered voices) count config table) → count ≤ 128
  unfolding tabled_mask_reply
  tabled-few n curve config table d = few config _ (table_reply table) d

  pub stereo-few :
      (m n : ℕ) (curve : List Float) (config : MaskConfig) (table : List Float)
      → Done (stereo_reply m n curve (gathered voices) count config table) → count ≤ 128
  unfolding stereo_reply
  stereo-few m n curve config table d = few config _ (table_reply table) d

  -- ---- what a slice holds: mask of the voices, where the call is done
  pub written_same :
      (mask : List MaskVoice → List Float) (old : List Float) (a : Reply) → (Done a → count ≤ 128)
      → written a (mask (take count (gathered voices))) old ≡ written a (mask voices) old
  written_same mask old (done values) few = ap mask (all-heard voices count counted (few tt))
  written_same mask old (refused number place) few = refl
