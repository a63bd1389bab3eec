-- The moving field at a frequency, document 01's `motion_openness` and `motion_attenuation_db`:
-- eight shapes, resting at depth ≤ 0.001. Assumes nothing.
use Rattle.std.specs.Prelude.{Bool, cond, ◌||◌, Float}
use Rattle.std.specs.Float.{binary32}
use Rattle.std.specs.Float.Ieee.{of_bits, sub, mul, div, neg, lt, le}
use Rattle.float32.specs.Order.{maximum}
use Rattle.float32.specs.Remainder.{zero, one, rem_euclid_one}
use Rattle.power.specs.Log.{L2}
use Rattle.decibels.specs.Gain.{gain_of}
use Rattle.scene.specs.declared.MotionShape.{MotionShape}
use Rattle.scene.specs.declared.MotionShape.TheVariants.{Ripple, Harmonic, Drift, Scan, Notch, Saw, Sprinkle, Cloud}
use Rattle.scene.specs.declared.MotionConfig.{MotionConfig}
use Rattle.motion.specs.Shapes.{ripple, harmonic, drift, window, saw}

-- the lowest frequency shown: 20 Hz
abbrev pub min_display_frequency_hz : Float
min_display_frequency_hz = of_bits binary32 0x41a0_0000

-- 0.001
abbrev pub resting_depth_db : Float
resting_depth_db = of_bits binary32 0x3a83_126f

-- 0.05
abbrev pub min_size_octaves : Float
min_size_octaves = of_bits binary32 0x3d4c_cccd

-- x octaves above the lowest frequency shown. Sprinkle and Cloud are event-driven and are applied
-- separately, so their field is open.
abbrev pub shape_at : MotionShape → Float → Float → Float → Float
shape_at Ripple x size phase = ripple x size phase
shape_at Harmonic x size phase = harmonic x size phase
shape_at Drift x size phase = drift x size phase
shape_at Scan x size phase = window x size phase
shape_at Notch x size phase = sub binary32 one (window x size phase)
shape_at Saw x size phase = saw x size phase
shape_at Sprinkle x size phase = one
shape_at Cloud x size phase = one

-- the field rests up to a depth of 0.001, and below the lowest frequency shown
abbrev pub resting : Float → MotionConfig → Bool
resting frequency config = le config.depth_db resting_depth_db || lt frequency min_display_frequency_hz

-- 1 is the crest, where the drawn ceiling is unchanged, and 0 receives the full attenuation
unfoldable pub openness : Float → MotionConfig → Float
openness frequency config =
    cond (resting frequency config) one
    (shape_at config.shape (L2 (div binary32 frequency min_display_frequency_hz)) (maximum config.size_octaves min_size_octaves) (rem_euclid_one config.phase))

-- in decibels
unfoldable pub attenuation : Float → MotionConfig → Float
attenuation frequency config = mul binary32 (maximum config.depth_db zero) (sub binary32 one (openness frequency config))

-- the field's gain at a frequency, before compensation
unfoldable pub motion_gain : Float → MotionConfig → Float
motion_gain frequency config = gain_of (neg (attenuation frequency config))
