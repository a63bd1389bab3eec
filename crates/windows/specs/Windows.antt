-- The dual window and the coherent gain of document 01, in the Rust's order of operations: "sums
-- run left to right from 0". Assumes nothing.
use Rattle.std.specs.Prelude.{List, ℕ, ◌/◌, pos, length, Float}
use Rattle.std.specs.Float.{binary32}
use Rattle.std.specs.Float.Ieee.{add, div, of_int}
use Rattle.lists.specs.Maps.{tabulate}
use Rattle.lists.specs.Folds.{fold}
use Rattle.float_laws.specs.Round.{plus_zero}
use Rattle.float_laws.specs.Order.{maximum}
use Rattle.float_laws.specs.Classes.{energy_at, dual_at, least_divisor}

-- what the value at index i is divided by: the squares of the values at i, i + hop, i + 2 hop, ..,
-- wrapping around at the end, summed from 0 in that order; at least 1.0e-12
abbrev pub denominator_at : List Float → ℕ → ℕ → ℕ → Float
denominator_at w hop overlap i = maximum (energy_at binary32 w hop overlap i) least_divisor

-- the dual of a window: at each index the value divided by that
abbrev pub dual_of : List Float → ℕ → List Float
dual_of w overlap = tabulate (length w) (dual_at w (length w / overlap) overlap)

-- the values summed from 0, left to right
abbrev pub sum_of : List Float → Float
sum_of w = fold (λ s x. add binary32 s x) plus_zero w

-- that sum divided by the size
abbrev pub coherent_gain : List Float → Float
coherent_gain w = div binary32 (sum_of w) (of_int binary32 (pos (length w)))
