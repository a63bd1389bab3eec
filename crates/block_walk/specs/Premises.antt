-- What the walk by blocks asks of what it is lent, each part under a name. Nothing here says what
-- a mask is. Assumes nothing.
use Rattle.std.specs.Prelude.{List, ℕ, ◌≤◌, ◌<◌, length, Float}
use Rattle.lobes.specs.declared.Grid.{Grid}
use Rattle.lobes.specs.declared.Lobe.{Lobe}
use Rattle.block_walk.specs.declared.columns.Span.{Span}
use Rattle.block_walk.specs.Compact.{Within, InColumns, Ready}

-- ---- the columns that the bounds are worked out from: their room, and what they hold
pub record ColumnRoom (centers strengths peaks : List Float) (count : ℕ) : Type 0 where
  pub centers-long : count ≤ length centers
  pub strengths-long : count ≤ length strengths
  pub peaks-long : count ≤ length peaks

pub record Columns (lobes : List Lobe) (count : ℕ)
    (centers strengths peaks : List Float) : Type 0 where
  pub room : ColumnRoom centers strengths peaks count
  pub values : InColumns lobes count centers strengths peaks

-- ---- some lobes within a span of bins of the grid, over a table whose blocks' ends are known
pub record Spanned (grid : Grid) (table lows highs : List Float) (lobes : List Lobe) (count : ℕ)
    (span : Span) : Type 0 where
  pub some : 0 < count
  pub ready : Ready grid table lows highs
  pub last : span.last_bin ≤ grid.last_bin
  pub within : Within lobes count span.first_bin span.last_bin

-- and their columns
pub record SpannedColumns (grid : Grid) (table lows highs centers strengths peaks : List Float)
    (lobes : List Lobe) (count : ℕ) (span : Span) : Type 0 where
  pub spanned : Spanned grid table lows highs lobes count span
  pub columns : Columns lobes count centers strengths peaks
