-- The most that any lobe of a tone opens at each bin of a block. These are steps of the compact
-- way, which writes what the plain way writes: nothing here says what a mask is. Assumes nothing.
use Rattle.std.specs.Prelude.{◌≡◌, List, ℕ, ◌+◌, ◌≤◌, ◌<◌, T, length, get_or, Float}
use Rattle.std.specs.Float.{nan, binary32}
use Rattle.std.specs.Float.Ieee.{le}
use Rattle.float_laws.specs.Rise.{Upto}
use Rattle.float32.specs.Remainder.{zero, one}
use Rattle.power.specs.Log.{L2}
use Rattle.lobes.specs.declared.Grid.{Grid}
use Rattle.lobes.specs.declared.Lobe.{Lobe}
use Rattle.lobes.specs.Distance.{Logs, lent}
use Rattle.lobes.specs.Lobe.{opening}
use Rattle.lobe_bounds.specs.Bound.{Measured}
use Rattle.lobe_joins.specs.Joined.{no_lobe, lobes_joined}

-- the most that one of them opens at a bin
abbrev pub most_open : Grid → Logs → List Lobe → ℕ → Float
most_open grid logs lobes bin = lobes_joined grid logs one lobes bin zero

-- a lobe as an accepted voice has it
pub record SoundLobe (grid : Grid) (lobe : Lobe) : Type 0 where
  pub log-of-center : lobe.center_log2 ≡ L2 lobe.center
  pub first : 1 ≤ lobe.first_bin
  pub last : lobe.last_bin ≤ grid.last_bin
  pub measured : Measured grid lobe

abbrev pub SoundLobes : Grid → List Lobe → ℕ → Type 0
SoundLobes grid lobes count = (p : ℕ) → p < count → SoundLobe grid (get_or lobes p no_lobe)

-- over the bins from start on and below end the lobe opens at most a bound
abbrev pub Bounded : Grid → List Float → Lobe → Float → ℕ → ℕ → Type 0
Bounded grid table lobe bound start end = (bin : ℕ) → start ≤ bin → bin < end → T (le (opening grid (lent table) lobe bin) bound)

-- what a row of bins holds are opennesses: not negative, and at most 8
abbrev pub Opennesses : List Float → Type 0
Opennesses xs = (k : ℕ) → k < length xs → Upto binary32 3 (get_or xs k nan)

-- a bound in 0..1 for each of the first `count` lobes
abbrev pub BoundedLobes : Grid → List Float → List Lobe → ℕ → List Float → ℕ → ℕ → Type 0
BoundedLobes grid table lobes count bounds start end = (p : ℕ) → p < count → Upto binary32 0 (get_or bounds p nan) × Bounded grid table (get_or lobes p no_lobe) (get_or bounds p nan) start end

-- a row that has the most that one of the lobes opens at each bin from start on and below end
abbrev pub HasMost : Grid → List Float → List Lobe → ℕ → ℕ → List Float → Type 0
HasMost grid table lobes start end row = (k : ℕ) → start + k < end → get_or row k nan ≡ most_open grid (lent table) lobes (start + k)

-- a number that is not above what any of these bins holds
abbrev pub NotAbove : Float → ℕ → ℕ → List Float → Type 0
NotAbove x start end xs = (bin : ℕ) → start ≤ bin → bin < end → bin < length xs → T (le x (get_or xs bin nan))
