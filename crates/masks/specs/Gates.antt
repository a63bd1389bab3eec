-- The gate of the note layer: the lift of a note's centre, the floor of the closed regions, and the
-- gain at an openness between the two. The definitions follow the Rust's `note_emphasis_gain`,
-- `smoothstep` and `note_gate_gain`, rounded at each operation in its order. Assumes nothing.
use Rattle.std.specs.Prelude.{cond, Float}
use Rattle.std.specs.Float.{binary32}
use Rattle.std.specs.Float.Ieee.{of_bits, le, add, sub, mul, div, neg}
use Rattle.float32.specs.Order.{maximum, clamp}
use Rattle.float32.specs.Remainder.{zero, one}
use Rattle.float32.specs.Smoothstep.{smoothstep}
use Rattle.power.specs.Log.{L2}
use Rattle.decibels.specs.Gain.{gain_of}

-- the lift is 6 dB up to 100 cents and falls to 0 dB at 12 times that width
abbrev pub narrow_cents : Float
narrow_cents = of_bits binary32 0x42c80000

abbrev pub wide_ratio : Float
wide_ratio = of_bits binary32 0x41400000

abbrev pub emphasis_decibels : Float
emphasis_decibels = of_bits binary32 0x40c00000

-- a width's position between narrow (0) and wide (1), on a logarithmic scale
unfoldable pub width_position : Float → Float
width_position width = clamp zero one (cond (le width narrow_cents) zero (div binary32 (L2 (div binary32 width narrow_cents)) (L2 wide_ratio)))

-- the gain of a fully open note centre
unfoldable pub emphasis_gain : Float → Float
emphasis_gain width = gain_of (mul binary32 emphasis_decibels (sub binary32 one (smoothstep (width_position width))))

-- the gain of a closed region
unfoldable pub floor_gain : Float → Float
floor_gain depth = gain_of (neg (maximum depth zero))

-- the gain at an openness: the floor at 0, the emphasis at 1
abbrev pub gate_gain : Float → Float → Float → Float
gate_gain floor emphasis openness = add binary32 floor (mul binary32 (sub binary32 emphasis floor) openness)

-- `note_gate_gain`, which clamps the openness to 0..1
unfoldable pub limited_gate_gain : Float → Float → Float → Float
limited_gate_gain depth width openness = gate_gain (floor_gain depth) (emphasis_gain width) (clamp zero one openness)
