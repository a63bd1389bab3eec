-- The gain that the drawn curve gives a bin: the curve point that the bin reads, and the gain of a
-- curve value. Assumes nothing.
use Rattle.std.specs.Prelude.{Bool, not, cond, List, ℕ, ◌+◌, ◌*◌, ◌/◌, min, get_or, Float}
use Rattle.std.specs.Float.{nan, binary32}
use Rattle.std.specs.Float.Ieee.{of_bits, lt}
use Rattle.float32.specs.Order.{minimum}
use Rattle.float32.specs.Remainder.{zero}
use Rattle.limits.specs.Lengths.{last_point}
use Rattle.decibels.specs.Gain.{gain_of}

-- "Bin b reads curve point floor((b * 8192 + size / 4) / (size / 2)), at most 8,192." A bin is at
-- most 8,192; one above it would count as that.
unfoldable pub curve_point : ℕ → ℕ → ℕ
curve_point bin size = min ((min bin last_point * last_point + size / 4) / (size / 2)) last_point

-- "Curve values ≤ -144 give 0, values above 0 count as 0"; "a NaN in the drawn curve now mutes its
-- bin, gain 0". So what is not above -144 is muted, and NaN is above nothing.
abbrev pub manual_curve_mute_db : Float
manual_curve_mute_db = of_bits binary32 0xc3100000

abbrev pub muted : Float → Bool
muted db = not (lt manual_curve_mute_db db)

unfoldable pub curve_gain : Float → Float
curve_gain db = cond (muted db) zero (gain_of (minimum db zero))

unfoldable pub manual_gain : List Float → ℕ → ℕ → Float
manual_gain curve bin size = curve_gain (get_or curve (curve_point bin size) nan)
