-- What the functions over consecutive bins ask of what they are lent, each part under a name.
-- Nothing here says what a mask is. Assumes nothing.
use Rattle.std.specs.Prelude.{◌≡◌, List, ℕ, ◌+◌, ◌^◌, ◌≤◌, ◌<◌, length, get_or, Float}
use Rattle.power.specs.Log.{L2}
use Rattle.limits.specs.Lengths.{max_partials}
use Rattle.lobes.specs.declared.Grid.{Grid}
use Rattle.lobes.specs.declared.Lobe.{Lobe}
use Rattle.lobes.specs.Distance.{Logs, IfLent}
use Rattle.lobe_joins.specs.Joined.{no_lobe}

-- the rows that a lobe is worked out in
pub record Scratch (chunk : List Float) (indexes : List ℕ) : Type 0 where
  pub chunk-64 : length chunk ≡ 64
  pub indexes-64 : length indexes ≡ 64

-- room for some bins in both rows
pub record Room (chunk : List Float) (indexes : List ℕ) (count : ℕ) : Type 0 where
  pub in-chunk : count ≤ length chunk
  pub in-indexes : count ≤ length indexes

-- a grid whose bins are few enough to be numbered, and are in the table where one is lent
pub record OnGrid (grid : Grid) (logs : Logs) : Type 0 where
  pub last : grid.last_bin ≤ 2 ^ 24
  pub inside : IfLent logs (λ table. grid.last_bin < length table)

-- ---- a lobe whose centre's logarithm is known: some of its bins by the table, some of its bins,
-- and all of them
pub record ByTable (table : List Float) (lobe : Lobe) (start count : ℕ) : Type 0 where
  pub log-of-center : lobe.center_log2 ≡ L2 lobe.center
  pub inside : start + count ≤ length table

pub record BinsKnown (logs : Logs) (lobe : Lobe) (start count : ℕ) : Type 0 where
  pub log-of-center : lobe.center_log2 ≡ L2 lobe.center
  pub last : start + count ≤ 2 ^ 24 + 1
  pub inside : IfLent logs (λ table. start + count ≤ length table)

pub record LobeKnown (logs : Logs) (lobe : Lobe) : Type 0 where
  pub log-of-center : lobe.center_log2 ≡ L2 lobe.center
  pub last : lobe.last_bin ≤ 2 ^ 24
  pub inside : IfLent logs (λ table. lobe.last_bin < length table)

-- the first `count` lobes of a list, none of which reaches past the grid's last bin
pub record LobesKnown (grid : Grid) (logs : Logs) (lobes : List Lobe) (count : ℕ) : Type 0 where
  pub few : count ≤ max_partials
  pub on-grid : OnGrid grid logs
  pub known : (p : ℕ) → p < count →
      ((get_or lobes p no_lobe).center_log2 ≡ L2 (get_or lobes p no_lobe).center) ×
      ((get_or lobes p no_lobe).last_bin ≤ grid.last_bin)
