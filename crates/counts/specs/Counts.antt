-- A float as a count: `floor` and `ceil`, "exact", and then Rust's `as usize`. Assumes nothing.
use Rattle.std.specs.Prelude.{Bool, true, false, cond, ℕ, ◌+◌, ◌-◌, ◌*◌, ◌/◌, ◌^◌, min, Float}
use Rattle.float32.specs.Value.{above, below, negative}

-- a / b rounded to a whole number: down, or up where `up` is true
abbrev pub whole : Bool → ℕ → ℕ → ℕ
whole false a b = a / b
whole true a b = (a + (b - 1)) / b

-- a whole number `as usize`: 0 for a negative one, the largest count for one that does not fit
abbrev pub counted : Bool → ℕ → ℕ
counted true n = 0
counted false n = min n (2 ^ 64 - 1)

-- A NaN counts as 0 and an infinity as 2 ^ 128 (`above`), so the same rule covers them. A negative
-- number rounded up is at most 0.
unfoldable pub count_of : Bool → Float → ℕ
count_of up x = counted (negative x) (whole up (above x) (below x))

-- A number as a whole number of millionths, rounded down. A negative one counts as 0 and one from
-- 2 ^ 44 up as 2 ^ 44, so that the millionths fit in 64 bits.
unfoldable pub millionths : Float → ℕ
millionths x = cond (negative x) 0 (min (above x * 1000000 / below x) (2 ^ 44 * 1000000))

-- Rust's `x.floor() as usize` and `x.ceil() as usize`
abbrev pub floor_count : Float → ℕ
floor_count x = count_of false x

abbrev pub ceil_count : Float → ℕ
ceil_count x = count_of true x
