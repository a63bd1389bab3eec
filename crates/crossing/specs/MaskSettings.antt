-- How a C caller passes the settings of a mask: as one record of numbers, the motion's shape being
-- one of 0..7 in the Rust's order. Assumes nothing.
use Rattle.std.specs.Prelude.{◌≡◌, ◌<◌, cond, leb, Result, MatchResult}
use Rattle.answer.specs.Refusal.{SIZE_OR_RATE, SETTING}
use Rattle.answer.specs.Reply.{Reply, refused, of_refusal}
use Rattle.answer.specs.declared.Refusal.{Refusal}
use Rattle.scene.specs.Made.{shape_number}
use Rattle.scene.specs.declared.MaskConfig.{MaskConfig}
use Rattle.scene.specs.Accepted.{size_accepted}
use Rattle.crossing.specs.Settings.{motion_of}
use Rattle.crossing.specs.declared.settings.Settings.{Settings}

abbrev pub config_of : Settings → MaskConfig
config_of settings =
    record {
      sample_rate = settings.sample_rate;
      fft_size = settings.fft_size;
      note_depth_db = settings.note_depth_db;
      note_layer_enabled = settings.note_layer_enabled;
      width_cents = settings.width_cents;
      partials = settings.partials;
      harmonic_rolloff_db_per_octave = settings.harmonic_rolloff_db_per_octave;
      motion =
          motion_of settings.motion_shape settings.motion_depth_db
          settings.motion_phase settings.motion_size_octaves;
    }

-- the settings as one record of numbers: the shape is its number
abbrev pub plain_settings : MaskConfig → Settings
plain_settings config =
    record {
      sample_rate = config.sample_rate;
      fft_size = config.fft_size;
      note_depth_db = config.note_depth_db;
      note_layer_enabled = config.note_layer_enabled;
      width_cents = config.width_cents;
      partials = config.partials;
      harmonic_rolloff_db_per_octave = config.harmonic_rolloff_db_per_octave;
      motion_shape = shape_number config.motion.shape;
      motion_depth_db = config.motion.depth_db;
      motion_phase = config.motion.phase;
      motion_size_octaves = config.motion.size_octaves;
    }

-- any other shape is refusal 2, after refusal 1
abbrev pub shape_reply : Settings → Reply
shape_reply settings =
    cond (size_accepted (config_of settings)) (refused SETTING 0) (refused SIZE_OR_RATE 0)

-- what is read of the settings: what they say where the shape is one of 0..7, otherwise that reply
abbrev pub Reads : Settings → Result MaskConfig Refusal → Type 0
Reads settings r =
    MatchResult r (λ config. (settings.motion_shape < 8) × (config ≡ config_of settings))
    (λ refusal. (7 < settings.motion_shape) × (of_refusal refusal ≡ shape_reply settings))

-- the reply of a call that is given the settings: any other shape is refusal 2, after refusal 1
unfoldable pub with_settings : Settings → (MaskConfig → Reply) → Reply
with_settings settings reply =
    let config = config_of settings in
    cond (leb settings.motion_shape 7) (reply config)
    (cond (size_accepted config) (refused SETTING 0) (refused SIZE_OR_RATE 0))
