-- A bin's distance from a lobe's centre in widths, and the bell over that distance: from the lent
-- table, "prepared or not", or from the bin's own frequency where no table was lent. Assumes
-- nothing.
use Rattle.std.specs.Prelude.{Option, Some, None, List, ℕ, get_or, ⊤, Float}
use Rattle.std.specs.Borrow.{Bor}
use Rattle.std.specs.Float.{nan, binary32}
use Rattle.std.specs.Float.Ieee.{of_bits, sub, mul, div}
use Rattle.power.specs.Log.{L2}
use Rattle.power.specs.Decimal.{exp}
use Rattle.frequencies.specs.Frequency.{hertz}
use Rattle.gaussian.specs.Bell.{gaussian}
use Rattle.lobes.specs.declared.Grid.{Grid}
use Rattle.lobes.specs.Grid.{cents_per_octave}

-- where the logarithms of the bins come from
pub data Logs : Type 0 where
  lent : List Float → Logs
  none : Logs

-- the table, where the call was lent one
abbrev pub logs_of : Option (Bor (List Float)) → Logs
logs_of (Some table) = lent table.now
logs_of None = none

-- it is so of the table, if one was lent
unfoldable pub IfLent : Logs → (List Float → Type 0) → Type 0
IfLent (lent table) P = P table
IfLent none P = ⊤

abbrev pub minus_half : Float
minus_half = of_bits binary32 0xbf00_0000

-- the octaves from a centre up to a bin
abbrev pub octaves : Grid → Logs → Float → ℕ → Float
octaves grid (lent table) center bin = sub binary32 (get_or table bin nan) (L2 center)
octaves grid none center bin = L2 (div binary32 (hertz grid.bin_hz bin) center)

-- octaves in widths, which are in cents
abbrev pub in_widths : Float → Float → Float
in_widths width octaves = div binary32 (mul binary32 cents_per_octave octaves) width

unfoldable pub distance : Grid → Logs → Float → ℕ → Float
distance grid logs center bin = in_widths grid.width (octaves grid logs center bin)

-- exp(-square/2), by the Gaussian table where a table was lent
unfoldable pub bell : Logs → Float → Float
bell (lent table) square = gaussian square
bell none square = exp (mul binary32 minus_half square)
