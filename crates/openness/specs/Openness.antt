-- How far the voices open a bin: "Lobes join by maximum, onto an openness of 0 in every bin."
-- Everything here is a function of the bin. Assumes nothing.
use Rattle.std.specs.Prelude.{cond, List, ℕ, Float}
use Rattle.std.specs.Float.{binary32}
use Rattle.std.specs.Float.Ieee.{of_bits, le}
use Rattle.lists.specs.Folds.{fold}
use Rattle.float32.specs.Remainder.{zero}
use Rattle.scene.specs.declared.MaskVoice.{MaskVoice}
use Rattle.lobes.specs.declared.Grid.{Grid}
use Rattle.lobes.specs.declared.Tone.{Tone}
use Rattle.lobes.specs.Pan.{Side, channel_gain}
use Rattle.lobes.specs.Tone.{tone_of}
use Rattle.lobes.specs.Distance.{Logs}
use Rattle.lobes.specs.Lobe.{lobe_of}
use Rattle.lobe_joins.specs.Joined.{lobe_joined}
use Rattle.tone_lobes.specs.ToneLobes.{partials_of}

-- "Voices at level ≤ 0.00001 are skipped."
abbrev pub skipped_level : Float
skipped_level = of_bits binary32 0x3727_c5ac

unfoldable pub tone_joined : Grid → Logs → Float → Tone → ℕ → Float → Float
tone_joined grid logs gain tone bin held = fold (λ held partial. lobe_joined grid logs gain bin held (lobe_of grid logs tone partial)) held (partials_of grid tone)

unfoldable pub voice_joined : Grid → Logs → (MaskVoice → Float) → ℕ → Float → MaskVoice → Float
voice_joined grid logs gain bin held voice = cond (le voice.level skipped_level) held (tone_joined grid logs (gain voice) (tone_of grid voice) bin held)

-- the voices in their order
unfoldable pub openness : Grid → Logs → Side → List MaskVoice → ℕ → Float
openness grid logs side voices bin = fold (voice_joined grid logs (channel_gain side) bin) zero voices
