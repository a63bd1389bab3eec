-- The frequency of a note in twelve-tone equal temperament: 440 * 2 ^ ((note + tuning - 69) / 12),
-- rounded at each operation, in the Rust's order. Assumes nothing.
use Rattle.std.specs.Prelude.{ℕ, pos, Float}
use Rattle.std.specs.Float.{binary32}
use Rattle.std.specs.Float.Ieee.{of_bits, of_int, add, sub, mul, div}
use Rattle.power.specs.Power.{E2}

-- A4 is note 69 and has 440 Hz; an octave has 12 notes
abbrev pub a4_note : Float
a4_note = of_bits binary32 0x428a0000

abbrev pub a4_hertz : Float
a4_hertz = of_bits binary32 0x43dc0000

abbrev pub notes_per_octave : Float
notes_per_octave = of_bits binary32 0x41400000

abbrev pub note_hertz : ℕ → Float → Float
note_hertz note tuning = mul binary32 a4_hertz (E2 (div binary32 (sub binary32 (add binary32 (of_int binary32 (pos note)) tuning) a4_note) notes_per_octave))
