-- The stages in which the sines of a row of angles are computed. Assumes nothing.
use Rattle.std.specs.Prelude.{cond, ◌&&◌, ℕ, ◌+◌, ◌-◌, ◌*◌, ◌/◌, ◌%◌, ◌^◌, ltb, eqb, Float}
use Rattle.std.specs.Float.{binary32}
use Rattle.std.specs.Float.Ieee.{round}
use Rattle.sine.specs.Table.{R}
use Rattle.sine.specs.Sine.{U, q, p}

-- the position of an angle plus `ahead`
abbrev pub place_ahead : ℕ → Float → ℕ
place_ahead ahead θ = (U θ + ahead) % 2 ^ 24

-- the position in the quarter; in an odd one counted back from the last unit before its end, so
-- that an entry of R follows in every quarter
abbrev pub way : ℕ → ℕ
way U = cond (eqb (q U % 2) 1) (4194303 - p U) (p U)

-- the entry on its left, and the fraction of the step from there; in an odd quarter plus the one
-- unit left out of `way`
abbrev pub index_of : ℕ → ℕ
index_of U = way U / 2 ^ 14

abbrev pub part_of : ℕ → ℕ
part_of U = way U % 2 ^ 14 + q U % 2

-- interpolated between that entry and the next, without the 6 last bits
abbrev pub value_at : ℕ → ℕ → ℕ
value_at index part = (R index + (R (index + 1) - R index) * part / 2 ^ 14) / 64

-- w / 2^24 with the sign of the quarter
abbrev pub level_at : ℕ → ℕ → Float
level_at U w = round binary32 (ltb 1 (q U) && ltb 0 w) w (2 ^ 24)
