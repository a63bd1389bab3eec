-- What the functions over a block of bins ask of what they are lent, each part under a name.
-- Nothing here says what a mask is. Assumes nothing.
use Rattle.std.specs.Prelude.{◌≡◌, Bool, true, List, ℕ, ◌+◌, ◌-◌, ◌^◌, ◌≤◌, ◌<◌, length, Float}
use Rattle.std.specs.Float.{binary32}
use Rattle.lists.specs.Maps.{map_range}
use Rattle.float_laws.specs.Rise.{Upto}
use Rattle.float32.specs.Remainder.{one}
use Rattle.limits.specs.Lengths.{max_partials}
use Rattle.lobes.specs.declared.Grid.{Grid}
use Rattle.lobes.specs.declared.Lobe.{Lobe}
use Rattle.lobes.specs.Distance.{lent}
use Rattle.lobe_joins.specs.Joined.{lobe_joined}
use Rattle.lobe_rows.specs.declared.Gains.{Gains}
use Rattle.lobe_rows.specs.Premises.{Scratch}
use Rattle.blocks.specs.Least.{Least}
use Rattle.block_rows.specs.Most.{SoundLobe, SoundLobes, Bounded, Opennesses, BoundedLobes}

-- ---- the two sides that are raised
pub record SidesOpen (first second : List Float) : Type 0 where
  pub first-open : Opennesses first
  pub second-open : Opennesses second

-- each side's gain is finite, not negative, and at most 8
pub record GainsWithin (gains : Gains) : Type 0 where
  pub first-gain : Upto binary32 3 gains.first
  pub second-gain : Upto binary32 3 gains.second

pub record SidesGained (first second : List Float) (by : Gains) : Type 0 where
  pub sides : SidesOpen first second
  pub gains : GainsWithin by

-- ---- a sound lobe, or the first `count` of a list, and what they are worked out with
pub record LobeReady (chunk : List Float) (indexes : List ℕ) (grid : Grid)
    (lobe : Lobe) : Type 0 where
  pub scratch : Scratch chunk indexes
  pub sound : SoundLobe grid lobe

pub record LobesReady (chunk : List Float) (indexes : List ℕ) (grid : Grid) (lobes : List Lobe)
    (count : ℕ) : Type 0 where
  pub scratch : Scratch chunk indexes
  pub few : count ≤ max_partials
  pub sound : SoundLobes grid lobes count

-- ---- a block: at most 64 bins, from start on and below end, that the table has
pub record Block (grid : Grid) (table : List Float) (start end : ℕ) : Type 0 where
  pub from : start ≤ end
  pub most : end ≤ start + 64
  pub inside : end ≤ length table
  pub last : grid.last_bin ≤ 2 ^ 24

-- and a bound there for each of some lobes
pub record BlockBounded (grid : Grid) (table b : List Float) (lobes : List Lobe)
    (count start end : ℕ) : Type 0 where
  pub block : Block grid table start end
  pub some : 0 < count
  pub bounds-long : count ≤ length b
  pub bounds : BoundedLobes grid table lobes count b start end

-- ---- the row that the lobes of a block are joined to; the lobe at `top` comes first
pub record RowFrom (row : List Float) (top count : ℕ) : Type 0 where
  pub row-64 : length row ≡ 64
  pub top-inside : top < count

-- a row to which lobes were joined, with a number that is not above any of it; and a lobe that
-- comes next, with its bound, unless it is there already
pub record RowSoFar (grid : Grid) (table row : List Float) (lobe : Lobe) (there : Bool)
    (bound least : Float) (start end : ℕ) : Type 0 where
  pub row-64 : length row ≡ 64
  pub row_open : Opennesses row
  pub row-least : Least least 0 64 row
  pub bound-in-unit : Upto binary32 0 bound
  pub bounded : Bounded grid table lobe bound start end
  pub already : there ≡ true → row ≡ map_range
      (λ k held. lobe_joined grid (lent table) one (start + k) held lobe) 0 (end - start) row
