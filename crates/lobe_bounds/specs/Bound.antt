-- The bound under which a lobe stays over a whole block of bins, of which no more is known than
-- that their logarithms lie from `low` to `high`: its strength times an entry of the Gaussian
-- table, the one on the left of the least distance that such a bin can have. Assumes nothing.
use Rattle.std.specs.Prelude.{List, ℕ, ◌<◌, min, T, get_or, Float}
use Rattle.std.specs.Float.{nan, binary32}
use Rattle.std.specs.Float.Ieee.{fits, lt, le, sub, mul}
use Rattle.float_laws.specs.Units.{number, real}
use Rattle.float_laws.specs.Round.{plus_zero}
use Rattle.counts.specs.Counts.{floor_count}
use Rattle.float32.specs.Order.{maximum, clamp}
use Rattle.float32.specs.Powers.{square}
use Rattle.float32.specs.Remainder.{zero, one}
use Rattle.gaussian.specs.Table.{gaussian_lut_steps, G}
use Rattle.gaussian.specs.Bell.{position}
use Rattle.lobes.specs.declared.Grid.{Grid}
use Rattle.lobes.specs.declared.Lobe.{Lobe}
use Rattle.lobes.specs.Distance.{in_widths}

-- the least distance in widths, rounded, that a bin of the block can have from a centre, which is
-- given as its logarithm
abbrev pub least_distance : Float → Float → Float → Float → Float
least_distance width center low high = in_widths width (maximum (maximum (sub binary32 low center) (sub binary32 center high)) zero)

-- its position in the Gaussian table, given the square of the peak bin's distance
abbrev pub nearest_place : Float → Float → Float → Float → Float → Float
nearest_place width center peak low high = position (maximum (sub binary32 (square (least_distance width center low high)) peak) zero)

-- the most that a lobe of this strength opens at or after a position in the table, which never
-- rises
abbrev pub bound_at : Float → Float → Float
bound_at strength place = clamp zero one (mul binary32 strength (G (min (floor_count place) gaussian_lut_steps)))

unfoldable pub bound_of : Float → Float → Float → Float → Float → Float → Float
bound_of width strength center peak low high = bound_at strength (nearest_place width center peak low high)

-- what the law of the bound asks of the width that all lobes share, and of the lobe
pub record Measured (grid : Grid) (lobe : Lobe) : Type 0 where
  pub width-real : T (real binary32 grid.width)
  pub width_above : T (lt plus_zero grid.width)
  pub strength-real : T (real binary32 lobe.strength)
  pub strength-low : T (le plus_zero lobe.strength)
  pub peak-fits : T (fits binary32 lobe.peak_squared)

-- none of the first `count` is NaN
abbrev pub Numbers : List Float → ℕ → Type 0
Numbers xs count = (p : ℕ) → p < count → T (number binary32 (get_or xs p nan))

-- none of the first `count` is above the one at an index
abbrev pub GreatestAt : List Float → ℕ → ℕ → Type 0
GreatestAt xs count place = (place < count) × ((p : ℕ) → p < count → T (le (get_or xs p nan) (get_or xs place nan)))
