-- Document 01's lengths and counts, in its order of words. Assumes nothing.
use Rattle.std.specs.Prelude.{Bool, ◌&&◌, ℕ, ◌+◌, ◌*◌, ◌/◌, leb}

-- "over 128 voices" is refusal 3
abbrev pub most_voices : ℕ
most_voices = 128

-- "size not a power of two in 64..16,384"
abbrev pub most_size : ℕ
most_size = 16384

-- "overlap not in 1..16"
abbrev pub most_overlap : ℕ
most_overlap = 16

-- "partials 1..24"
abbrev pub max_partials : ℕ
max_partials = 24

-- "bin 0..8,192"
abbrev pub most_bin : ℕ
most_bin = 8192

-- "A voice: note 0..127"
abbrev pub most_note : ℕ
most_note = 127

-- "Curve length 8,193"
abbrev pub manual_mask_points : ℕ
manual_mask_points = 8193

-- "curve point .., at most 8,192"
abbrev pub last_point : ℕ
last_point = 8192

-- "Masks and table: size/2 + 1"
abbrev pub bins : ℕ → ℕ
bins size = size / 2 + 1

-- "Envelope bank and note levels 128"
abbrev pub midi_notes : ℕ
midi_notes = 128

-- "Windows 1..16,384"
abbrev pub most_window : ℕ
most_window = 16384

abbrev pub window_length : ℕ → Bool
window_length n = leb 1 n && leb n most_window

-- "gain lists 0..8,193"
abbrev pub most_gains : ℕ
most_gains = 8193

abbrev pub gains_length : ℕ → Bool
gains_length n = leb n most_gains

-- "Held notes are 16 bytes"
abbrev pub held_bytes : ℕ
held_bytes = 16

-- "Block length: 4·size + size/2 + 1"
abbrev pub block_length : ℕ → ℕ
block_length size = 4 * size + size / 2 + 1

-- request 104: "A head is 31 bytes, a voice 29"
abbrev pub record_head : ℕ
record_head = 31

abbrev pub record_voice : ℕ
record_voice = 29

-- "31 plus 29 for each voice counted"
abbrev pub record_length : ℕ → ℕ
record_length count = record_head + record_voice * count
