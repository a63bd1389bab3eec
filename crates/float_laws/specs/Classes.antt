-- The dual window over slice indices. The code's step at index i: the squares of the values at i,
-- i + hop, i + 2 hop, .., wrapping around at the end, summed from +0, and the value at i over that
-- sum.
-- The indices of one residue class modulo hop read one list of values, each from its own place on,
-- so the bound of Window is one of the slice. Assumes nothing.
use Rattle.std.specs.Prelude.{◌≡◌, cond, List, ℕ, ◌+◌, ◌*◌, ◌%◌, ◌^◌, ◌≤◌, ◌<◌, T, length, get_or, Float}
use Rattle.std.specs.Float.{nan, Format, binary32}
use Rattle.std.specs.Float.Ieee.{low, unlike, add, div, of_bits}
use Rattle.lists.specs.Folds.{fold, range}
use Rattle.lists.specs.Totals.{residues}
use Rattle.float_laws.specs.Units.{mag, sign, real}
use Rattle.float_laws.specs.Order.{maximum}
use Rattle.float_laws.specs.Round.{plus_zero}
use Rattle.float_laws.specs.Window.{squared}

-- ---- the code's step: the sum of squares that index i divides by, and its dual
abbrev pub energy_at : Format → List Float → ℕ → ℕ → ℕ → Float
energy_at f w hop overlap i = fold (λ s offset. add f s (squared f (get_or w ((i + offset * hop) % length w) nan))) plus_zero (range 0 overlap)

abbrev pub dual_by : Format → Float → List Float → ℕ → ℕ → ℕ → Float
dual_by f c w hop overlap i = div f (get_or w i nan) (maximum (energy_at f w hop overlap i) c)

-- ---- the exact sum of products over a class, in units of the smallest value's square: products
-- above zero add to `gains`, those below it to `losses`, and the sum is gains less losses
abbrev pub gain : Format → Float → Float → ℕ
gain f x y = cond (unlike (sign x) (sign y)) 0 (mag f x * mag f y)

abbrev pub loss : Format → Float → Float → ℕ
loss f x y = cond (unlike (sign x) (sign y)) (mag f x * mag f y) 0

-- the products x i · y i at the indices below n that are r modulo hop are finite, and their exact
-- sum is 1 within 2 ^ -19
pub record SumsToOne (f : Format) (n hop r : ℕ) (x y : ℕ → Float) : Type 0 where
  pub finite : (i : ℕ) → i < n → i % hop ≡ r → T (real f (x i)) × T (real f (y i))
  pub most : 524288 * residues hop r n (λ i. gain f (x i) (y i)) ≤ 524289 * (2 ^ low f * 2 ^ low f) + 524288 * residues hop r n (λ i. loss f (x i) (y i))
  pub least : 524287 * (2 ^ low f * 2 ^ low f) + 524288 * residues hop r n (λ i. loss f (x i) (y i)) ≤ 524288 * residues hop r n (λ i. gain f (x i) (y i))

-- ---- f32, with the code's least divisor, 1.0e-12
abbrev pub least_divisor : Float
least_divisor = of_bits binary32 0x2b8cbccc

abbrev pub dual_at : List Float → ℕ → ℕ → ℕ → Float
dual_at w hop overlap i = dual_by binary32 least_divisor w hop overlap i
