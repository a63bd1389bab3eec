-- "A's curve is nowhere above B's where, of the 8,193 entries, none of A's is greater than B's at
-- the same index; the curves are equal where neither is above the other anywhere." Infinities are
-- allowed, and so is NaN. Assumes nothing.
use Rattle.std.specs.Prelude.{Bool, not, cond, List, ℕ, ◌<◌, T, get_or, Float}
use Rattle.std.specs.Float.{nan}
use Rattle.std.specs.Float.Ieee.{lt, is_nan}
use Rattle.limits.specs.Lengths.{manual_mask_points}

-- the point x is above the point y, "a NaN point ranking below every number": two NaN points are
-- equal
abbrev pub above : Float → Float → Bool
above x y = cond (is_nan y) (not (is_nan x)) (lt y x)

abbrev pub NowhereAbove : List Float → List Float → Type 0
NowhereAbove a b =
    (i : ℕ) → i < manual_mask_points → T (not (above (get_or a i nan) (get_or b i nan)))

abbrev pub EqualCurves : List Float → List Float → Type 0
EqualCurves a b = NowhereAbove a b × NowhereAbove b a
