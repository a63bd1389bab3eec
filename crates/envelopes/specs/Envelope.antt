-- The envelopes of `advance_note_envelopes`: the levels of 128 notes, each of which moves toward 1
-- while its note is held and toward 0 while it is not.
-- Every operation is rounded, in the order of the Rust. Assumes nothing.
use Rattle.std.specs.Prelude.{Bool, cond, List, ℕ, ◌-◌, ◌/◌, ◌%◌, ◌^◌, ◌≤◌, ◌<◌, T, eqb, get_or, Float}
use Rattle.std.specs.Float.{nan, binary32}
use Rattle.std.specs.Float.Ieee.{of_bits, add, sub, mul, div, neg, lt, le}
use Rattle.lists.specs.Maps.{map_at}
use Rattle.float32.specs.Order.{magnitude}
use Rattle.float32.specs.Remainder.{zero, one}
use Rattle.power.specs.Decimal.{exp}
use Rattle.limits.specs.Limits as limits

-- "Held notes are 16 bytes, most significant bit first: note 0 is the top bit of byte 0." A note
-- past the last byte is not held.
abbrev pub held_bit : List ℕ → ℕ → ℕ
held_bit held note = get_or held (note / 8) 0 / 2 ^ (7 - note % 8) % 2

abbrev pub is_held : List ℕ → ℕ → Bool
is_held held note = eqb (held_bit held note) 1

-- The fraction of the distance to its target that a level covers in the seconds elapsed:
-- 1 - exp(-elapsed / time), and all of it where the time is 0 or less.
unfoldable pub smoothing_alpha : Float → Float → Float
smoothing_alpha elapsed time = cond (le time zero) one (sub binary32 one (exp (div binary32 (neg elapsed) time)))

-- 0.001: a fade is given in milliseconds
abbrev pub seconds_per_ms : Float
seconds_per_ms = of_bits binary32 0x3a83_126f

abbrev pub fade_alpha : Float → Float → Float
fade_alpha elapsed fade = smoothing_alpha elapsed (mul binary32 fade seconds_per_ms)

abbrev pub target_of : Bool → Float
target_of held = cond held one zero

-- 0.000001: what is below this in magnitude counts as silence, and becomes +0
abbrev pub SILENCE : Float
SILENCE = of_bits binary32 0x3586_37bd

unfoldable pub settled : Float → Float
settled level = cond (lt (magnitude level) SILENCE) zero level

-- one level's step toward its target
abbrev pub next_level : Bool → Float → Float → Float
next_level held alpha level =
    settled (add binary32 level (mul binary32 (sub binary32 (target_of held) level) alpha))

-- the levels of the notes from `first` on and below `last` are within their limits
abbrev pub Accepted : List Float → ℕ → ℕ → Type 0
Accepted levels first last =
    (note : ℕ) → first ≤ note → note < last → T (limits.level (get_or levels note nan))

-- the bank after one step: entry n is the level of note n
abbrev pub advanced : List ℕ → Float → Float → List Float → List Float
advanced held elapsed fade levels = map_at (λ note level. next_level (is_held held note) (fade_alpha elapsed fade) level) levels
