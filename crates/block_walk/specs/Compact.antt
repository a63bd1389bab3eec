-- The compact way of raising a tone: its lobes together, block by block. It writes what the plain
-- way writes, so nothing here says what a mask is; these are the steps between. Assumes nothing.
use Rattle.std.specs.Prelude.{◌≡◌, List, ℕ, ◌+◌, ◌*◌, ◌≤◌, ◌<◌, T, length, get_or, Float}
use Rattle.std.specs.Float.{nan, binary32}
use Rattle.float_laws.specs.Units.{real}
use Rattle.limits.specs.Lengths.{most_bin}
use Rattle.blocks.specs.Ends.{Ends}
use Rattle.lobes.specs.declared.Grid.{Grid}
use Rattle.lobes.specs.declared.Lobe.{Lobe}
use Rattle.lobe_joins.specs.Joined.{no_lobe}

-- the entries of a table, from 1 on, are finite numbers
abbrev pub RealTable : List Float → Type 0
RealTable table = (bin : ℕ) → 1 ≤ bin → bin < length table → T (real binary32 (get_or table bin nan))

-- no lobe reaches a bin below the first or above the last
abbrev pub Within : List Lobe → ℕ → ℕ → ℕ → Type 0
Within lobes count first last = (p : ℕ) → p < count → (first ≤ (get_or lobes p no_lobe).first_bin) × ((get_or lobes p no_lobe).last_bin ≤ last)

-- the lobes' centres, strengths and peaks in columns
abbrev pub InColumns : List Lobe → ℕ → List Float → List Float → List Float → Type 0
InColumns lobes count centers strengths peaks =
    (p : ℕ) → p < count
    → (get_or centers p nan ≡ (get_or lobes p no_lobe).center_log2) × (get_or strengths p nan ≡ (get_or lobes p no_lobe).strength) × (get_or peaks p nan ≡ (get_or lobes p no_lobe).peak_squared)

-- the ends of a table's blocks, on a grid that the walk can go over
pub record Ready (grid : Grid) (table lows highs : List Float) : Type 0 where
  pub last : grid.last_bin ≤ most_bin
  pub inside : grid.last_bin < length table
  pub lows-long : length table ≤ 64 * length lows + 1
  pub highs-long : length table ≤ 64 * length highs + 1
  pub ends : Ends table lows highs
  pub table-real : RealTable table
