-- A row of 64 numbers that holds all of a run of a list and nothing else: where the list ends
-- before the run does, an entry is repeated. Assumes nothing.
use Rattle.std.specs.Prelude.{◌≡◌, List, ℕ, ◌+◌, ◌<◌, length, get_or, Float}
use Rattle.std.specs.Float.{nan}
use Rattle.blocks.specs.Least.{Held}

pub record RowOf (start : ℕ) (xs row : List Float) : Type 0 where
  pub is-long : length row ≡ 64
  pub all : (k : ℕ) → k < 64 → start + k < length xs → get_or row k nan ≡ get_or xs (start + k) nan
  pub only : (k : ℕ) → k < 64 → Held (get_or row k nan) start (start + 64) xs
