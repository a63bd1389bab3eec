-- The ends of a bin's own block: its table entry lies between them, and what is known of every
-- entry is known of them. Assumes nothing.
use mathlib.Core.Path.{sym, subst}
use mathlib.Core.List.{List}
use Prim.Native.Nat.{ℕ, ◌≤◌, ◌<◌}
use native.Mathlib.Omega.{arith}
use lib.Dec.{T}
use lib.ListN.{length, get_or}
use lib.Ieee.{Float, nan, binary32, le}
use Rattle.float_laws.specs.Units.{number}
use Rattle.blocks.specs.Ends.{block_of, Ends}

module _ {table lows highs : List Float} (ends : Ends table lows highs) (bin : ℕ) (from : 1 ≤ bin) (within : bin < length table) where
  pub low-at : T (le (get_or lows (block_of bin) nan) (get_or table bin nan))
  low-at = (ends.low (block_of bin) (omega arith)).least bin (omega arith) (omega arith) within

  pub high-at : T (le (get_or table bin nan) (get_or highs (block_of bin) nan))
  high-at = (ends.high (block_of bin) (omega arith)).greatest bin (omega arith) (omega arith) within

  pub low-number : T (number binary32 (get_or lows (block_of bin) nan))
  low-number = (ends.low (block_of bin) (omega arith)).is_number

  pub high-number : T (number binary32 (get_or highs (block_of bin) nan))
  high-number = (ends.high (block_of bin) (omega arith)).is_number

  module _ (P : Float → Type 0) (known : (k : ℕ) → 1 ≤ k → k < length table → P (get_or table k nan)) where
    pub low-known : P (get_or lows (block_of bin) nan)
    low-known =
        let h = (ends.low (block_of bin) (omega arith)).held (omega arith) (omega arith) in
        subst P (sym h.is) (known h.place (omega (arith, h.from)) h.within)

    pub high-known : P (get_or highs (block_of bin) nan)
    high-known =
        let h = (ends.high (block_of bin) (omega arith)).held (omega arith) (omega arith) in
        subst P (sym h.is) (known h.place (omega (arith, h.from)) h.within)
