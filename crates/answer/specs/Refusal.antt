-- The refusal numbers by name: document 01's, in the order of its table, and those of requests.
-- Assumes nothing.
use Rattle.std.specs.Prelude.{ℕ}

-- "size not a power of two in 64..16,384, or rate outside 8,000..192,000 Hz"
abbrev pub SIZE_OR_RATE : ℕ
SIZE_OR_RATE = 1

-- "a setting or lone number outside its limits, or NaN"
abbrev pub SETTING : ℕ
SETTING = 2

-- "over 128 voices"
abbrev pub VOICE_COUNT : ℕ
VOICE_COUNT = 3

-- "a slice of the wrong length"
abbrev pub LENGTH : ℕ
LENGTH = 4

-- "a voice outside its limits; place: voice"
abbrev pub VOICE : ℕ
VOICE = 5

-- "table entry from 1 on not in -2..17; place: entry"
abbrev pub TABLE_ENTRY : ℕ
TABLE_ENTRY = 6

-- "a level, gain or window value outside its limits; place: entry"
abbrev pub LIST_VALUE : ℕ
LIST_VALUE = 7

-- "overlap not in 1..16 or not dividing the length"
abbrev pub OVERLAP : ℕ
OVERLAP = 8

-- request 104: "A record read whose length isn't 31 plus 29 for each voice counted, or with a
-- forbidden bit set"
abbrev pub RECORD : ℕ
RECORD = 9

-- request 105: "An id already present when added, or missing when taken out or changed"
abbrev pub ID : ℕ
ID = 10

-- request 106: "A strip above 15"
abbrev pub STRIP : ℕ
STRIP = 11
