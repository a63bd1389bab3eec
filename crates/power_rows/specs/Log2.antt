-- A logarithm by the stages in which a row of numbers is computed. Assumes nothing.
use Rattle.std.specs.Prelude.{◌≡◌, cond, List, ℕ, ◌+◌, ◌^◌, ◌≤◌, ◌<◌, T, length, Float}
use Rattle.float32.specs.Remainder.{one}
use Rattle.power.specs.Table.{high_bits, P}
use Rattle.power.specs.Log.{greatest, positive_normal}
use Rattle.power.specs.Stages.{digits_of, EndsAt}

-- any other number counts as 1, whose logarithm is 0 too
abbrev pub ready_of : Float → Float
ready_of v = cond (positive_normal v) v one

-- the step that the digits t lie in, and the table's entries at its ends
abbrev pub step_of : ℕ → ℕ
step_of t = greatest P t (2 ^ high_bits)

abbrev pub from_of : ℕ → ℕ
from_of t = P (step_of t)

abbrev pub to_of : ℕ → ℕ
to_of t = P (step_of t + 1)

-- room for what the stages find of some numbers
pub record Room (digits steps from to : List ℕ) (count : ℕ) : Type 0 where
  pub in-digits : count ≤ length digits
  pub in-steps : count ≤ length steps
  pub in-from : count ≤ length from
  pub in-to : count ≤ length to

-- t are the digits of some number, scaled as the table's entries are
pub record Scaled (t : ℕ) : Type 0 where
  pub low : 2 ^ 30 ≤ t
  pub high : t < 2 ^ 31

-- v has a logarithm, and its digits t lie in the step h, from a to b
pub record Found (v : Float) (t h a b : ℕ) : Type 0 where
  pub normal : T (positive_normal v)
  pub digits : t ≡ digits_of v
  pub ends : EndsAt t h a b
