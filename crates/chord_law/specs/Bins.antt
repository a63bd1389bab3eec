-- The chord law bin by bin: bins 0 to size/2, on the left and on the right. Assumes nothing.
use Rattle.std.specs.Prelude.{ℕ, ◌+◌, ◌/◌, ◌<◌, T, get_or}
use Rattle.std.specs.Float.{nan}
use Rattle.std.specs.Float.Ieee.{le}
use Rattle.lobes.specs.Pan.{left, right}
use Rattle.chord_law.specs.Calls.{Call, F32Call, whole, mask_on}
use Rattle.chord_law.specs.Premises.{Comparable, Beneath}

-- neither A's gain on the left nor that on the right is above B's
pub record BinNotAbove (a b : Call) (bin : ℕ) : Type 0 where
  pub left-bin : T (le (get_or (mask_on left a) bin nan) (get_or (mask_on left b) bin nan))
  pub right-bin : T (le (get_or (mask_on right a) bin nan) (get_or (mask_on right b) bin nan))

abbrev pub ChordLawByBins : Type 0
ChordLawByBins =
    (a b : Call) → F32Call a → F32Call b
    → Comparable (whole a) (whole b) → Beneath (whole a) (whole b)
    → (bin : ℕ) → bin < a.config.fft_size / 2 + 1 → BinNotAbove a b bin
