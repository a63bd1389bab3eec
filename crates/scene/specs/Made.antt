-- A shape by its number and the number of a shape, the silent voice, and the scene of a call that
-- gives none. Assumes nothing.
use Rattle.std.specs.Prelude.{false, cond, ℕ, eqb, replicate}
use Rattle.float32.specs.Remainder.{zero}
use Rattle.limits.specs.Lengths.{most_voices}
use Rattle.scene.specs.declared.MaskVoice.{MaskVoice}
use Rattle.scene.specs.declared.MaskConfig.{MaskConfig}
use Rattle.scene.specs.declared.Scene.{Scene}
use Rattle.scene.specs.declared.Pitch.TheVariants.{Note}
use Rattle.scene.specs.declared.MotionShape.{MotionShape}
use Rattle.scene.specs.declared.MotionShape.TheVariants.{Ripple, Harmonic, Drift, Scan}
use Rattle.scene.specs.declared.MotionShape.TheVariants.{Notch, Saw, Sprinkle, Cloud}

-- in the Rust's order; a number above 7, which no call accepts, counts as the last
abbrev pub shape_of : ℕ → MotionShape
shape_of n =
    cond (eqb n 0) Ripple
    (cond (eqb n 1) Harmonic
    (cond (eqb n 2) Drift
    (cond (eqb n 3) Scan
    (cond (eqb n 4) Notch
    (cond (eqb n 5) Saw
    (cond (eqb n 6) Sprinkle
    Cloud))))))

-- the number of a shape
abbrev pub shape_number : MotionShape → ℕ
shape_number Ripple = 0
shape_number Harmonic = 1
shape_number Drift = 2
shape_number Scan = 3
shape_number Notch = 4
shape_number Saw = 5
shape_number Sprinkle = 6
shape_number Cloud = 7

-- the initial contents of an array of voices
abbrev pub silent_voice : MaskVoice
silent_voice =
    record {
      pitch = Note 0 zero;
      level = zero;
      pressure = zero;
      timbre = zero;
      volume_gain = zero;
      expression_gain = zero;
      pan = zero;
    }

-- settings that no call accepts: each is 0 or off
abbrev pub blank_settings : MaskConfig
blank_settings =
    record {
      sample_rate = zero;
      fft_size = 0;
      note_depth_db = zero;
      note_layer_enabled = false;
      width_cents = zero;
      partials = 0;
      harmonic_rolloff_db_per_octave = zero;
      motion =
          record { shape = Ripple; depth_db = zero; phase = zero; size_octaves = zero };
    }

abbrev pub blank_scene : Scene
blank_scene =
    record { config = blank_settings; voices = replicate most_voices silent_voice; count = 0 }
