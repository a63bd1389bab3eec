-- What document 01 says of a dual window: "where the squares of the analysis values at all indices
-- equal modulo length/overlap add to at least 2^-30, the exact sum of analysis times synthesis over
-- them is 1 within 2^-19". Sizes are counted in units of 2 ^ -149, f32's smallest value, so 1 is
-- 2 ^ 149 of them. Assumes nothing.
use Rattle.std.specs.Prelude.{List, ℕ, ◌*◌, ◌/◌, ◌^◌, ◌≤◌, ◌<◌, length, get_or, Float}
use Rattle.std.specs.Float.{nan, binary32}
use Rattle.std.specs.Float.Ieee.{low}
use Rattle.lists.specs.Totals.{residues}
use Rattle.float_laws.specs.Units.{mag}
use Rattle.float_laws.specs.Classes.{SumsToOne}

-- the squares of the values at the indices that are r modulo hop add to at least 2 ^ -30
abbrev pub EnoughSquares : List Float → ℕ → ℕ → Type 0
EnoughSquares w hop r =
    2 ^ low binary32 * 2 ^ low binary32
    ≤ 2 ^ 30 * residues hop r (length w)
    (λ i. mag binary32 (get_or w i nan) * mag binary32 (get_or w i nan))

-- over each such residue class the products with the dual add to 1 within 2 ^ -19
abbrev pub IsDual : List Float → List Float → ℕ → Type 0
IsDual w dual overlap =
    (r : ℕ) → r < length w / overlap → EnoughSquares w (length w / overlap) r
    → SumsToOne binary32 (length w) (length w / overlap) r
    (λ i. get_or w i nan) (λ i. get_or dual i nan)
