-- `PreparedSpectrum::new` of document 01 "fills one lent block: window, its dual, smooth window,
-- its dual, logarithms; the frequency table begins after the four windows". Assumes nothing.
use Rattle.std.specs.Prelude.{List, ◌++◌, ℕ, length, Float}
use Rattle.lists.specs.Maps.{tabulate}
use Rattle.limits.specs.Lengths.{bins}
use Rattle.windows.specs.Windows.{dual_of}
use Rattle.frequencies.specs.Frequency.{prepared}

-- a window and its dual
abbrev pub pair_of : List Float → ℕ → List Float
pair_of w overlap = w ++ dual_of w overlap

-- the logarithms, for windows of that size
abbrev pub logarithms : Float → ℕ → List Float
logarithms rate size = tabulate (bins size) (prepared rate size)

unfoldable pub block_of : Float → List Float → List Float → ℕ → List Float
block_of rate window smooth overlap = window ++ dual_of window overlap ++ smooth ++ dual_of smooth overlap ++ logarithms rate (length window)
