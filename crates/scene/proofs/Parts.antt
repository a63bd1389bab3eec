-- Settings and voices with some of their fields changed, and that the same fields make the same
-- record. Assumes nothing.
use mathlib.Core.Path.{◌≡◌}
use mathlib.Core.Bool.{Bool}
use Prim.Native.Nat.{ℕ}
use Rattle.scene.specs.declared.MaskVoice.{MaskVoice}
use Rattle.scene.specs.declared.MaskConfig.{MaskConfig}
use Rattle.scene.specs.declared.MotionShape.{MotionShape}
use Rattle.scene.specs.declared.Pitch.{Pitch}

-- a voice at another pitch
abbrev pub with_pitch : MaskVoice → Pitch → MaskVoice
with_pitch v pitch =
    record {
      pitch = pitch;
      level = v.level;
      pressure = v.pressure;
      timbre = v.timbre;
      volume_gain = v.volume_gain;
      expression_gain = v.expression_gain;
      pan = v.pan;
    }

-- settings with another size, layer, number of partials and shape
abbrev pub with_fields : MaskConfig → ℕ → Bool → ℕ → MotionShape → MaskConfig
with_fields c size layer partials shape =
    record {
      sample_rate = c.sample_rate;
      fft_size = size;
      note_depth_db = c.note_depth_db;
      note_layer_enabled = layer;
      width_cents = c.width_cents;
      partials = partials;
      harmonic_rolloff_db_per_octave = c.harmonic_rolloff_db_per_octave;
      motion =
          record {
            shape = shape;
            depth_db = c.motion.depth_db;
            phase = c.motion.phase;
            size_octaves = c.motion.size_octaves;
          };
    }

pub fields-same :
    (c : MaskConfig) {m n : ℕ} {a b : Bool} {p q : ℕ} {s t : MotionShape}
    → m ≡ n → a ≡ b → p ≡ q → s ≡ t → with_fields c m a p s ≡ with_fields c n b q t
fields-same c e f g h = rw (e, f, g, h)
