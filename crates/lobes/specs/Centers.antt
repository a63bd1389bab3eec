-- Where the logarithms of a voice's lobes are taken: L2 is defined "of a positive normal v".
-- Assumes nothing.
use Rattle.std.specs.Prelude.{ℕ, ◌≤◌, T}
use Rattle.std.specs.Float.{binary32}
use Rattle.std.specs.Float.Ieee.{div}
use Rattle.power.specs.Log.{positive_normal}
use Rattle.limits.specs.Lengths.{max_partials}
use Rattle.frequencies.specs.Frequency.{hertz}
use Rattle.scene.specs.declared.MaskVoice.{MaskVoice}
use Rattle.scene.specs.declared.MaskConfig.{MaskConfig}
use Rattle.scene.specs.Accepted.{size_accepted, voice_accepted}
use Rattle.scene.specs.F32.{F32Settings, F32Voice}
use Rattle.lobes.specs.declared.Grid.{Grid}
use Rattle.lobes.specs.Grid.{grid_of}
use Rattle.lobes.specs.Tone.{tone_of, center_of}

-- the centre of each partial that a voice may have, 1 to 24
abbrev pub CentersNormal : Grid → MaskVoice → Type 0
CentersNormal grid voice =
    (partial : ℕ) → 1 ≤ partial → partial ≤ max_partials
    → T (positive_normal (center_of (tone_of grid voice) partial))

-- the frequency of each bin over such a centre
abbrev pub RatiosNormal : Grid → MaskVoice → Type 0
RatiosNormal grid voice =
    (partial : ℕ) → 1 ≤ partial → partial ≤ max_partials
    → (bin : ℕ) → 1 ≤ bin → bin ≤ grid.last_bin
    → T (positive_normal
    (div binary32 (hertz grid.bin_hz bin) (center_of (tone_of grid voice) partial)))

-- no accepted voice takes the logarithm off its domain, be its pitch a note or a frequency
abbrev pub LogarithmsDefined : Type 0
LogarithmsDefined =
    (config : MaskConfig) → F32Settings config → T (size_accepted config)
    → (voice : MaskVoice) → F32Voice voice → T (voice_accepted voice)
    → CentersNormal (grid_of config) voice × RatiosNormal (grid_of config) voice
