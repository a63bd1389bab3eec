-- The mask of a scene: each bin's gain, from the bin's openness. A bin's gain does not depend on
-- other bins. Assumes nothing.
use Rattle.std.specs.Prelude.{cond, List, ℕ, ◌+◌, ◌/◌, Float}
use Rattle.lists.specs.Maps.{tabulate}
use Rattle.float32.specs.Remainder.{zero}
use Rattle.scene.specs.declared.MaskVoice.{MaskVoice}
use Rattle.scene.specs.declared.MaskConfig.{MaskConfig}
use Rattle.bin_gains.specs.Gains.{gain_at}
use Rattle.lobes.specs.Grid.{grid_of}
use Rattle.lobes.specs.Pan.{Side}
use Rattle.lobes.specs.Distance.{Logs}
use Rattle.openness.specs.Openness.{openness}

-- a bin's openness, before the gate is applied: 0 with the note layer off
unfoldable pub openness_at : MaskConfig → Logs → Side → List MaskVoice → ℕ → Float
openness_at config logs side voices bin = cond config.note_layer_enabled (openness (grid_of config) logs side voices bin) zero

unfoldable pub mask_at : List Float → MaskConfig → Logs → Side → List MaskVoice → ℕ → Float
mask_at curve config logs side voices bin = gain_at curve config bin (openness_at config logs side voices bin)

-- all of its size/2 + 1 bins
abbrev pub mask_of : List Float → MaskConfig → Logs → Side → List MaskVoice → List Float
mask_of curve config logs side voices = tabulate (config.fft_size / 2 + 1) (mask_at curve config logs side voices)
