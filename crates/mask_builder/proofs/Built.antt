-- From the openness of every bin to the mask: with the note layer on and off, on either side, and
-- where the two sides are equal. Assumes nothing.
use mathlib.Core.Path.{◌≡◌, refl, ap, ◌∙◌}
use mathlib.Core.Bool.{true, false}
use mathlib.Core.List.{List, ◌∷◌}
use Prim.Native.Nat.{ℕ, zero, suc, ◌+◌, ◌/◌, ◌≤◌}
use native.Mathlib.Omega.{arith}
use lib.Dec.{T}
use lib.Ieee.{Float}
use Rattle.lists.specs.Maps.{tab_from, tabulate, map_at}
use Rattle.lists.specs.Runs.{map-tab}
use Rattle.float32.specs.Remainder as float
use Rattle.scene.specs.declared.MaskVoice.{MaskVoice}
use Rattle.scene.specs.declared.MaskConfig.{MaskConfig}
use Rattle.lobes.specs.declared.Grid.{Grid}
use Rattle.lobes.specs.Grid.{grid_of}
use Rattle.lobes.specs.Pan.{Side, mono}
use Rattle.lobes.specs.Distance.{Logs}
use Rattle.openness.specs.Openness.{openness}
use Rattle.mask_builder.specs.Centered.{all_centered}
use Rattle.bin_gains.specs.Gains.{gain_at}
use Rattle.mask_builder.specs.Mask.{openness_at, mask_at, mask_of}
use Rattle.mask_builder.proofs.OneSide.{one_side}

-- ---- what a call of the crate below needs of the grid
pub grid-partials : (config : MaskConfig) → (grid_of config).partials ≤ 24
unfolding grid_of
grid-partials config = omega arith

pub grid-last : (config : MaskConfig) → (grid_of config).last_bin ≡ config.fft_size / 2
unfolding grid_of
grid-last config = refl

-- ---- functions that agree make one list
pub tab-same :
    {A : Type 0} (f g : ℕ → A) (j n : ℕ) → ((k : ℕ) → f k ≡ g k) → tab_from f j n ≡ tab_from g j n
unfolding tab_from
tab-same f g j zero e = refl
tab-same f g j (suc n) e = rw (e j) (ap (λ l. g j ∷ l) (tab-same f g (suc j) n e))

module _ (config : MaskConfig) (logs : Logs) (side : Side) (voices : List MaskVoice) (n : ℕ) where
  -- with the note layer on the voices open the bins, with it off nothing does
  pub opened : (grid : Grid) {xs : List Float} → grid ≡ grid_of config → config.note_layer_enabled ≡ true → xs ≡ tabulate n (openness grid logs side voices)
      → xs ≡ tabulate n (openness_at config logs side voices)
  unfolding openness_at
  opened grid e on x = x ∙ tab-same (openness grid logs side voices) (openness_at config logs side voices) 0 n (λ bin. rw (e, on) refl)

  pub shut : {xs : List Float} → config.note_layer_enabled ≡ false → xs ≡ tabulate n (λ bin. float.zero) → xs ≡ tabulate n (openness_at config logs side voices)
  unfolding openness_at
  shut off x = x ∙ tab-same (λ bin. float.zero) (openness_at config logs side voices) 0 n (λ bin. rw off refl)

  -- each bin's gain is computed from its openness
  pub finished : (curve : List Float) {xs ys : List Float} → n ≡ config.fft_size / 2 + 1 → xs ≡ tabulate n (openness_at config logs side voices) → ys ≡ map_at (gain_at curve config) xs
      → ys ≡ mask_of curve config logs side voices
  unfolding mask_at
  finished curve m x y = y ∙ ap (map_at (gain_at curve config)) x ∙ map-tab (gain_at curve config) (openness_at config logs side voices) n ∙ ap (λ (k : ℕ). tabulate k (mask_at curve config logs side voices)) m

-- where every voice is at the centre each side's mask is the mono mask
pub one-mask : (curve : List Float) (config : MaskConfig) (logs : Logs) (side : Side) (voices : List MaskVoice) → T (all_centered voices)
    → mask_of curve config logs mono voices ≡ mask_of curve config logs side voices
unfolding mask_at openness_at
one-mask curve config logs side voices t =
    tab-same (mask_at curve config logs mono voices) (mask_at curve config logs side voices) 0 (config.fft_size / 2 + 1) (λ bin. rw (one_side (grid_of config) logs side bin voices t) refl)
