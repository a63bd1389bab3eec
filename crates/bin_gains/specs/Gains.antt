-- A bin's gain from its openness: "A bin's gain is manual · motion · gate", products left to right.
-- A bin's gain does not depend on other bins. Assumes nothing.
use Rattle.std.specs.Prelude.{cond, List, ℕ, Float}
use Rattle.std.specs.Float.{binary32}
use Rattle.std.specs.Float.Ieee.{mul, lt}
use Rattle.float32.specs.Remainder.{one}
use Rattle.scene.specs.declared.MaskConfig.{MaskConfig}
use Rattle.frequencies.specs.Frequency.{bin_hertz, hertz}
use Rattle.masks.specs.Gates.{emphasis_gain, floor_gain, gate_gain}
use Rattle.masks.specs.Manual.{manual_gain}
use Rattle.motion.specs.Field.{resting_depth_db, motion_gain}
use Rattle.motion_compensation.specs.Compensation.{compensation}

-- the moving field's gain at a bin, compensated; 1 where the field rests
unfoldable pub motion_at : MaskConfig → ℕ → Float
motion_at config bin =
    cond (lt resting_depth_db config.motion.depth_db)
    (mul binary32 (motion_gain (hertz (bin_hertz config.sample_rate config.fft_size) bin) config.motion) (compensation config.motion))
    one

-- the gate at an openness, which is not clamped to 1; 1 with the note layer off
unfoldable pub gate_at : MaskConfig → Float → Float
gate_at config opened = cond config.note_layer_enabled (gate_gain (floor_gain config.note_depth_db) (emphasis_gain config.width_cents) opened) one

-- the drawn curve's gain times the moving field's: a bin's gain where the gate is 1
unfoldable pub ceiling_at : List Float → MaskConfig → ℕ → Float
ceiling_at curve config bin = mul binary32 (manual_gain curve bin config.fft_size) (motion_at config bin)

-- the gain of a bin, from its openness
abbrev pub gain_at : List Float → MaskConfig → ℕ → Float → Float
gain_at curve config bin opened = mul binary32 (ceiling_at curve config bin) (gate_at config opened)
