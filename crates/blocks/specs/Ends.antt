-- The bins from 1 on, 64 to a block: block b has the bins from 1 + 64 b on and below 65 + 64 b. Bin
-- 0, whose table entry is not tested, is in none. Assumes nothing.
use Rattle.std.specs.Prelude.{List, ℕ, ◌+◌, ◌-◌, ◌*◌, ◌/◌, ◌<◌, length, get_or, Float}
use Rattle.std.specs.Float.{nan}
use Rattle.blocks.specs.Least.{Least, Greatest}

abbrev pub block_of : ℕ → ℕ
block_of bin = (bin - 1) / 64

-- the minimum and maximum of each block that has a bin
pub record Ends (table lows highs : List Float) : Type 0 where
  pub low : (b : ℕ) → 1 + 64 * b < length table → Least (get_or lows b nan) (1 + 64 * b) (65 + 64 * b) table
  pub high : (b : ℕ) → 1 + 64 * b < length table → Greatest (get_or highs b nan) (1 + 64 * b) (65 + 64 * b) table
