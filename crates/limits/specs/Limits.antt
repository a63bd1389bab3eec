-- Document 01's limits, "ends included", in its order of words; "NaN lies outside every limit".
-- Assumes nothing.
use Rattle.std.specs.Prelude.{Bool, false, ◌&&◌, ◌||◌, List, [], ◌∷◌, ℕ, ◌%◌, leb, eqb, Float}
use Rattle.std.specs.Float.{binary32}
use Rattle.std.specs.Float.Ieee.{of_bits}
use Rattle.float32.specs.Order.{within}
use Rattle.limits.specs.Lengths.{most_note, max_partials, most_bin, most_overlap}

-- ---- numbers that are floats: the lowest and the highest that are accepted

abbrev pub least_decibels : Float
least_decibels = of_bits binary32 0xc42f0000

abbrev pub most_decibels : Float
most_decibels = of_bits binary32 0x442f0000

-- -700..700
abbrev pub decibels : Float → Bool
decibels x = within least_decibels most_decibels x

abbrev pub least_frequency : Float
least_frequency = of_bits binary32 0x00000000

abbrev pub most_frequency : Float
most_frequency = of_bits binary32 0x483b8000

-- 0..192,000 Hz
abbrev pub frequency : Float → Bool
frequency x = within least_frequency most_frequency x

abbrev pub least_note_depth : Float
least_note_depth = of_bits binary32 0x00000000

abbrev pub most_note_depth : Float
most_note_depth = of_bits binary32 0x43100000

-- 0..144 dB
abbrev pub note_depth : Float → Bool
note_depth x = within least_note_depth most_note_depth x

abbrev pub least_width : Float
least_width = of_bits binary32 0x3f800000

abbrev pub most_width : Float
most_width = of_bits binary32 0x44960000

-- 1..1,200 cents
abbrev pub width : Float → Bool
width x = within least_width most_width x

abbrev pub least_rolloff : Float
least_rolloff = of_bits binary32 0x00000000

abbrev pub most_rolloff : Float
most_rolloff = of_bits binary32 0x42400000

-- 0..48 dB per octave
abbrev pub rolloff : Float → Bool
rolloff x = within least_rolloff most_rolloff x

abbrev pub least_motion_depth : Float
least_motion_depth = of_bits binary32 0x00000000

abbrev pub most_motion_depth : Float
most_motion_depth = of_bits binary32 0x42c00000

-- 0..96 dB
abbrev pub motion_depth : Float → Bool
motion_depth x = within least_motion_depth most_motion_depth x

abbrev pub least_motion_size : Float
least_motion_size = of_bits binary32 0x00000000

abbrev pub most_motion_size : Float
most_motion_size = of_bits binary32 0x42c80000

-- 0..100 octaves
abbrev pub motion_size : Float → Bool
motion_size x = within least_motion_size most_motion_size x

abbrev pub least_elapsed : Float
least_elapsed = of_bits binary32 0x00000000

abbrev pub most_elapsed : Float
most_elapsed = of_bits binary32 0x41200000

-- 0..10 s
abbrev pub elapsed : Float → Bool
elapsed x = within least_elapsed most_elapsed x

abbrev pub least_fade : Float
least_fade = of_bits binary32 0x00000000

abbrev pub most_fade : Float
most_fade = of_bits binary32 0x476a6000

-- 0..60,000 ms
abbrev pub fade : Float → Bool
fade x = within least_fade most_fade x

abbrev pub least_rate : Float
least_rate = of_bits binary32 0x45fa0000

abbrev pub most_rate : Float
most_rate = of_bits binary32 0x483b8000

-- 8,000..192,000 Hz
abbrev pub rate : Float → Bool
rate x = within least_rate most_rate x

abbrev pub least_level : Float
least_level = of_bits binary32 0x00000000

abbrev pub most_level : Float
most_level = of_bits binary32 0x3f800000

-- 0..1
abbrev pub level : Float → Bool
level x = within least_level most_level x

abbrev pub least_tuning : Float
least_tuning = of_bits binary32 0xc2400000

abbrev pub most_tuning : Float
most_tuning = of_bits binary32 0x42400000

-- -48..48 semitones
abbrev pub tuning : Float → Bool
tuning x = within least_tuning most_tuning x

abbrev pub least_hertz : Float
least_hertz = of_bits binary32 0x3f800000

abbrev pub most_hertz : Float
most_hertz = of_bits binary32 0x469c4000

-- request 101: "a frequency in hertz from 1 to 20,000"
abbrev pub hertz : Float → Bool
hertz x = within least_hertz most_hertz x

abbrev pub least_table_entry : Float
least_table_entry = of_bits binary32 0xc0000000

abbrev pub most_table_entry : Float
most_table_entry = of_bits binary32 0x41880000

-- -2..17
abbrev pub table_entry : Float → Bool
table_entry x = within least_table_entry most_table_entry x

abbrev pub least_gain : Float
least_gain = of_bits binary32 0x00000000

abbrev pub most_gain : Float
most_gain = of_bits binary32 0x42800000

-- 0..64
abbrev pub gain : Float → Bool
gain x = within least_gain most_gain x

abbrev pub least_window_value : Float
least_window_value = of_bits binary32 0xc1800000

abbrev pub most_window_value : Float
most_window_value = of_bits binary32 0x41800000

-- -16..16
abbrev pub window_value : Float → Bool
window_value x = within least_window_value most_window_value x

-- ---- whole numbers

-- n is one of the numbers of the list
abbrev pub one_of : List ℕ → ℕ → Bool
one_of [] n = false
one_of (k ∷ ks) n = eqb n k || one_of ks n

-- a note, 0..127
abbrev pub note : ℕ → Bool
note n = leb n most_note

-- partials, 1..24
abbrev pub partials : ℕ → Bool
partials n = leb 1 n && leb n max_partials

-- a bin, 0..8,192
abbrev pub bin : ℕ → Bool
bin n = leb n most_bin

-- a size: 'a power of two in 64..16,384'
abbrev pub size : ℕ → Bool
size n = one_of (64 ∷ 128 ∷ 256 ∷ 512 ∷ 1024 ∷ 2048 ∷ 4096 ∷ 8192 ∷ 16384 ∷ []) n

-- an overlap 'in 1..16' that divides the length
abbrev pub overlap : ℕ → ℕ → Bool
overlap n length = leb 1 n && leb n most_overlap && eqb (length % n) 0
