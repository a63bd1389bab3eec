-- Every number of a scene is an f32, which is what the types of a call's parameters say. Assumes
-- nothing.
use Rattle.std.specs.Prelude.{List, ℕ, ◌<◌, T, length, get_or, Float}
use Rattle.std.specs.Float.{nan, binary32}
use Rattle.std.specs.Float.Ieee.{fits}
use Rattle.scene.specs.declared.MaskVoice.{MaskVoice}
use Rattle.scene.specs.declared.Pitch.{Pitch}
use Rattle.scene.specs.declared.Pitch.TheVariants.{Note, Hertz}
use Rattle.scene.specs.declared.MaskConfig.{MaskConfig}
use Rattle.scene.specs.Accepted.{no_voice}

abbrev pub F32 : Float → Type 0
F32 x = T (fits binary32 x)

abbrev pub F32Pitch : Pitch → Type 0
F32Pitch (Note note tuning) = F32 tuning
F32Pitch (Hertz hertz) = F32 hertz

pub record F32Voice (voice : MaskVoice) : Type 0 where
  pub pitch : F32Pitch voice.pitch
  pub level : F32 voice.level
  pub pressure : F32 voice.pressure
  pub timbre : F32 voice.timbre
  pub volume : F32 voice.volume_gain
  pub expression : F32 voice.expression_gain
  pub pan : F32 voice.pan

pub record F32Settings (config : MaskConfig) : Type 0 where
  pub rate : F32 config.sample_rate
  pub note-depth : F32 config.note_depth_db
  pub width : F32 config.width_cents
  pub rolloff : F32 config.harmonic_rolloff_db_per_octave
  pub motion-depth : F32 config.motion.depth_db
  pub phase : F32 config.motion.phase
  pub motion-size : F32 config.motion.size_octaves

-- of each voice and of each entry of a list
abbrev pub F32Voices : List MaskVoice → Type 0
F32Voices voices = (i : ℕ) → i < length voices → F32Voice (get_or voices i no_voice)

abbrev pub F32List : List Float → Type 0
F32List xs = (i : ℕ) → i < length xs → F32 (get_or xs i nan)
