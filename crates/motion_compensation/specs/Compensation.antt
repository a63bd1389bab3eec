-- `motion_compensation_gain` of document 01: the gain that compensates for the moving field, from
-- 256 samples spaced evenly over the octaves shown. Assumes nothing.
use Rattle.std.specs.Prelude.{cond, ℕ, pos, Float}
use Rattle.std.specs.Float.{binary32}
use Rattle.std.specs.Float.Ieee.{of_bits, of_int, add, mul, div, le}
use Rattle.lists.specs.Folds.{fold, range}
use Rattle.float32.specs.Order.{minimum}
use Rattle.float32.specs.Powers.{square}
use Rattle.float32.specs.Remainder.{zero, one, half}
use Rattle.square_root.specs.Root.{square_root_of}
use Rattle.power.specs.Power.{E2}
use Rattle.scene.specs.declared.MotionConfig.{MotionConfig}
use Rattle.motion.specs.Shapes.{display_octaves}
use Rattle.decibels.specs.Gain.{gain_of}
use Rattle.motion.specs.Field.{min_display_frequency_hz, resting_depth_db, motion_gain}

abbrev pub motion_compensation_samples : ℕ
motion_compensation_samples = 256

-- 12 dB
abbrev pub max_motion_compensation_db : Float
max_motion_compensation_db = of_bits binary32 0x4140_0000

-- 256, the number of samples, as an f32
abbrev samples : Float
samples = of_int binary32 (pos motion_compensation_samples)

-- the middle of step `index`: 20 · 2 ^ ((index + 0.5) / 256 · display_octaves)
unfoldable pub sample_frequency : ℕ → Float
sample_frequency index =
    mul binary32 min_display_frequency_hz (E2 (mul binary32 (div binary32 (add binary32 (of_int binary32 (pos index)) half) samples) display_octaves))

unfoldable pub sample_power : MotionConfig → ℕ → Float
sample_power config index = square (motion_gain (sample_frequency index) config)

-- the sum of the squared gains, left to right from +0, divided by their number
unfoldable pub mean_square : MotionConfig → Float
mean_square config = div binary32 (fold (λ sum index. add binary32 sum (sample_power config index)) zero (range 0 motion_compensation_samples)) samples

-- one over the root of the mean square, and at most 12 dB; 1 where the field rests
unfoldable pub compensation : MotionConfig → Float
compensation config =
    cond (le config.depth_db resting_depth_db) one
    (minimum (div binary32 one (square_root_of binary32 (mean_square config))) (gain_of max_motion_compensation_db))
