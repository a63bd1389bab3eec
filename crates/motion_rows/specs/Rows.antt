-- The field at the bins of a spectrum, by its settled settings: its openness and its gain. For a
-- field that does not rest this is the gain of `motion` (proofs/StagedField.antt).
-- Assumes nothing.
use Rattle.std.specs.Prelude.{Bool, true, false, cond, Float}
use Rattle.std.specs.Float.{binary32}
use Rattle.std.specs.Float.Ieee.{neg, sub, mul, div, lt}
use Rattle.float32.specs.Remainder.{one}
use Rattle.power.specs.Log.{L2}
use Rattle.decibels.specs.Gain.{gain_of}
use Rattle.scene.specs.declared.MotionShape.{MotionShape}
use Rattle.scene.specs.declared.MotionShape.TheVariants.{Ripple, Harmonic, Drift, Scan, Notch, Saw, Sprinkle, Cloud}
use Rattle.scene.specs.declared.MotionConfig.{MotionConfig}
use Rattle.motion.specs.Field.{min_display_frequency_hz, shape_at}

-- the event-driven shapes, whose field is open
abbrev pub made_of_events : MotionShape → Bool
made_of_events Ripple = false
made_of_events Harmonic = false
made_of_events Drift = false
made_of_events Scan = false
made_of_events Notch = false
made_of_events Saw = false
made_of_events Sprinkle = true
made_of_events Cloud = true

-- the shape's openness, x octaves above the lowest frequency shown
abbrev pub shaped : MotionConfig → Float → Float
shaped field x = shape_at field.shape x field.size_octaves field.phase

-- the openness at a frequency: 1 below the lowest shown
abbrev pub open_at : MotionConfig → Float → Float
open_at field frequency = cond (lt frequency min_display_frequency_hz) one (shaped field (L2 (div binary32 frequency min_display_frequency_hz)))

-- the decibels of an openness at a depth
abbrev pub lowered : Float → Float → Float
lowered depth opened = neg (mul binary32 depth (sub binary32 one opened))

-- the field's gain, x octaves above the lowest frequency shown
abbrev pub gain_there : MotionConfig → Float → Float
gain_there field x = gain_of (lowered field.depth_db (shaped field x))

-- the field's gain at a frequency
unfoldable pub gain_left : MotionConfig → Float → Float
gain_left field frequency = gain_of (lowered field.depth_db (open_at field frequency))
