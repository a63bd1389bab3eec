-- A lobe's opening at a bin, by the steps in which a row of bins is computed. Assumes nothing.
use Rattle.std.specs.Prelude.{◌≡◌, List, ℕ, get_or, Float}
use Rattle.std.proofs.Math.Path.{refl}
use Rattle.std.specs.Float.{nan, binary32}
use Rattle.std.specs.Float.Ieee.{sub, mul}
use Rattle.float32.specs.Order.{maximum, clamp}
use Rattle.float32.specs.Powers.{square}
use Rattle.float32.specs.Remainder.{zero, one}
use Rattle.power.specs.Log.{L2}
use Rattle.power.specs.Decimal.{exp}
use Rattle.gaussian.specs.Bell.{position, between}
use Rattle.lobes.specs.declared.Grid.{Grid}
use Rattle.lobes.specs.declared.Lobe.{Lobe}
use Rattle.lobes.specs.Distance.{lent, none, minus_half, in_widths, distance, bell}
use Rattle.lobes.specs.Lobe.{relative_square, opening}

-- the square of a distance in widths, less that of the peak bin, so that the bell is 1 there and a
-- note does not get weaker by its place between two bins
abbrev pub relative_to : Float → Float → Float
relative_to peak distance = maximum (sub binary32 (square distance) peak) zero

-- its place in the Gaussian table
abbrev pub place_of : Float → Float → Float
place_of peak distance = position (relative_to peak distance)

-- what a lobe of a strength opens under a bell
abbrev pub opened_by : Float → Float → Float
opened_by strength bell = clamp zero one (mul binary32 strength bell)

module _ (grid : Grid) (lobe : Lobe) (bin : ℕ) where
  pub opening-lent : (table : List Float)
      → opening grid (lent table) lobe bin
      ≡ opened_by lobe.strength (between (place_of lobe.peak_squared (in_widths grid.width (sub binary32 (get_or table bin nan) (L2 lobe.center)))))
  unfolding opening relative_square distance bell
  opening-lent table = refl

  pub opening-none : opening grid none lobe bin
      ≡ opened_by lobe.strength (exp (mul binary32 minus_half (relative_to lobe.peak_squared (distance grid none lobe.center bin))))
  unfolding opening relative_square bell
  opening-none = refl
