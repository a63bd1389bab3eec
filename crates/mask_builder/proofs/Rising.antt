-- A bin of a mask never falls as its curve point rises and as voices are raised: the manual gain
-- and the gate never fall, the motion is the same, and all three are finite and not negative, so
-- the product of the three rises. Assumes nothing.
use mathlib.Core.Bool.{Bool, true, false, cond}
use mathlib.Core.List.{List}
use Prim.Native.Nat.{ℕ, ◌≤◌, ◌<◌, min, max}
use native.Mathlib.Omega.{arith}
use lib.Dec.{lit≤}
use lib.ListN.{length, get_or}
use lib.Ieee.{Float, binary32}
use Rattle.lists.specs.Totals.{All}
use Rattle.float_laws.specs.Rise.{Rise, rise-refl, rise-mul}
use Rattle.float32.specs.Remainder.{zero}
use Rattle.scene.specs.declared.MaskVoice.{MaskVoice}
use Rattle.scene.specs.declared.MaskConfig.{MaskConfig}
use Rattle.scene.specs.Accepted.{no_voice}
use Rattle.scene.specs.Voices.{RealVoice}
use Rattle.scene.proofs.SettingsNumbers.{RealSettings}
use Rattle.masks.specs.Manual.{manual_gain}
use Rattle.bin_gains.specs.Gains.{ceiling_at, gain_at}
use Rattle.bin_gains.proofs.Rising.{motion-upto, gate-rises}
use Rattle.lobes.specs.Grid.{grid_of}
use Rattle.lobes.specs.Pan.{Side}
use Rattle.lobes.specs.Distance.{lent}
use Rattle.lobe_joins.proofs.Maxima.{nothing-open}
use Rattle.openness.proofs.RaisedVoices.{Fair, RaisedIn, openness-rises}
use Rattle.mask_builder.specs.Mask.{openness_at, mask_at}

-- ---- the openness, with the note layer on or off
pub fair-grid : (config : MaskConfig) → RealSettings config → Fair (grid_of config)
unfolding grid_of
fair-grid config c = record { rolloff = c.rolloff; few = few config.partials }
  where
    few : (n : ℕ) → min (max n 1) 24 ≤ 24
    few n = omega arith

-- ---- a bin's gain, as its curve point and its openness rise
pub gain-rises :
    (config : MaskConfig) → RealSettings config → (a b : List Float) (bin : ℕ)
    → Rise binary32 0 (manual_gain a bin config.fft_size)
    (manual_gain b bin config.fft_size)
    → {o p : Float} → Rise binary32 3 o p
    → Rise binary32 7 (gain_at a config bin o) (gain_at b config bin p)
unfolding ceiling_at
gain-rises config c a b bin h r =
    rise-mul binary32 2 5 (lit≤ tt)
    (rise-mul binary32 0 2 (lit≤ tt) h (rise-refl binary32 (motion-upto config bin c)))
    (gate-rises config c r)

module _ (config : MaskConfig) (c : RealSettings config) (table : List Float) (side : Side) (xs ys : List MaskVoice) (u : All RealVoice xs) (v : All RealVoice ys)
    (m : (i : ℕ) → i < length xs → RaisedIn (get_or xs i no_voice) ys) where
  pub openness-at-rises : (bin : ℕ) → Rise binary32 3 (openness_at config (lent table) side xs bin) (openness_at config (lent table) side ys bin)
  unfolding openness_at
  openness-at-rises bin = go config.note_layer_enabled (openness-rises (grid_of config) (fair-grid config c) table side bin xs ys u v m)
    where
      go : (b : Bool) {x y : Float} → Rise binary32 3 x y → Rise binary32 3 (cond b x zero) (cond b y zero)
      go true r = r
      go false r = rise-refl binary32 nothing-open

  -- ---- the product
  pub mask-rises : (a b : List Float) (bin : ℕ) → Rise binary32 0 (manual_gain a bin config.fft_size) (manual_gain b bin config.fft_size)
      → Rise binary32 7 (mask_at a config (lent table) side xs bin) (mask_at b config (lent table) side ys bin)
  unfolding mask_at
  mask-rises a b bin h = gain-rises config c a b bin h (openness-at-rises bin)
