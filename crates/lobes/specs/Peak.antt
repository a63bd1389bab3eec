-- The bin closest to a lobe's centre, the Rust's `closest_bin_in_cents`: of the two bins around the
-- centre the nearer in cents, the lower where they are equally near. It is never bin 0 and never
-- past the last bin. Assumes nothing.
use Rattle.std.specs.Prelude.{cond, ℕ, ◌+◌, min, max, Float}
use Rattle.std.specs.Float.{binary32}
use Rattle.std.specs.Float.Ieee.{mul, div, lt}
use Rattle.counts.specs.Counts.{floor_count}
use Rattle.float32.specs.Order.{magnitude}
use Rattle.power.specs.Log.{L2}
use Rattle.frequencies.specs.Frequency.{hertz}
use Rattle.lobes.specs.Grid.{cents_per_octave}

-- the cents between a bin and a centre, by the bin's own frequency, also where a table was lent
unfoldable pub cents : Float → Float → ℕ → Float
cents spacing center bin = magnitude (mul binary32 cents_per_octave (L2 (div binary32 (hertz spacing bin) center)))

unfoldable pub closest_bin : Float → Float → ℕ → ℕ
closest_bin center spacing last =
    let lower = min (max (floor_count (div binary32 center spacing)) 1) last in
    let upper = min (lower + 1) last in
    cond (lt (cents spacing center upper) (cents spacing center lower)) upper lower
