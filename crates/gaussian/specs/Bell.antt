-- The bell of a lobe at a relative square: exp(-square/2), read from the Gaussian table with linear
-- interpolation. Assumes nothing.
use Rattle.std.specs.Prelude.{ℕ, ◌+◌, min, T, pos, Float}
use Rattle.std.specs.Float.{binary32}
use Rattle.std.specs.Float.Ieee.{of_bits, of_int, add, sub, mul, le}
use Rattle.float_laws.specs.Units.{real}
use Rattle.float_laws.specs.Round.{plus_zero}
use Rattle.counts.specs.Counts.{floor_count}
use Rattle.float32.specs.Order.{clamp}
use Rattle.float32.specs.Remainder.{zero}
use Rattle.gaussian.specs.Table.{gaussian_lut_steps, G}

-- the table ends at a relative square of 16
abbrev pub gaussian_max_relative_squared : Float
gaussian_max_relative_squared = of_bits binary32 0x4180_0000

-- steps per unit of the relative square: 1,024 / 16
abbrev pub steps_per_square : Float
steps_per_square = of_bits binary32 0x4280_0000

-- the number of the last entry
abbrev pub last_place : Float
last_place = of_bits binary32 0x4480_0000

-- the position in the table, in steps
unfoldable pub position : Float → Float
position square = mul binary32 (clamp zero gaussian_max_relative_squared square) steps_per_square

-- a finite number, from the first entry to the last
pub record Place (place : Float) : Type 0 where
  pub is_real : T (real binary32 place)
  pub low : T (le plus_zero place)
  pub high : T (le place last_place)

-- the entry on its left, at most 1,024, and the fraction of a step from there
abbrev pub index_of : Float → ℕ
index_of place = min (floor_count place) gaussian_lut_steps

abbrev pub part_of : Float → Float
part_of place = sub binary32 place (of_int binary32 (pos (index_of place)))

-- linear interpolation from an entry to the one on its right. The last entry is its own right
-- neighbour
abbrev pub line : ℕ → Float → Float
line left part = let right = min (left + 1) gaussian_lut_steps in add binary32 (G left) (mul binary32 (sub binary32 (G right) (G left)) part)

-- the bell at a position, between the entries on its left and right
unfoldable pub between : Float → Float
between place = line (index_of place) (part_of place)

abbrev pub gaussian : Float → Float
gaussian square = between (position square)
