-- Document 01's maximum, minimum and clamp, the absolute value, and the tests that the limits use.
-- Assumes nothing.
use Rattle.std.specs.Prelude.{Bool, true, false, cond, ◌&&◌, is_nan, Float}
use Rattle.std.specs.Float.{nan, inf, fin}
use Rattle.std.specs.Float.Ieee.{lt, le}

-- "The maximum of a and b is b if a < b, else a; .. where one of the two is NaN, .. the other."
-- Where b alone is NaN, a < b is false.
unfoldable pub maximum : Float → Float → Float
maximum a b = cond (lt a b) b (cond (is_nan a) b a)

-- "The minimum is b if b < a, else a", and the same of a NaN.
unfoldable pub minimum : Float → Float → Float
minimum a b = cond (lt b a) b (cond (is_nan a) b a)

-- "A clamp gives the low end below it, the high end above it, else the number itself."
unfoldable pub clamp : Float → Float → Float → Float
clamp lo hi x = cond (lt x lo) lo (cond (lt hi x) hi x)

-- The absolute value: the sign is cleared, of a zero too.
unfoldable pub magnitude : Float → Float
magnitude nan = nan
magnitude (inf s) = inf false
magnitude (fin s m e) = fin false m e

-- "Limits, ends included"; "NaN lies outside every limit", since no comparison with it holds.
unfoldable pub within : Float → Float → Float → Bool
within lo hi x = le lo x && le x hi

-- "Any finite": neither NaN nor an infinity.
unfoldable pub finite : Float → Bool
finite nan = false
finite (inf s) = false
finite (fin s m e) = true
