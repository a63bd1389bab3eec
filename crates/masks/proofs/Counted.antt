-- The gain of a curve value is the gain of the decibels that it counts as: -1,000 dB are a gain of
-- 0. These decibels are never a NaN. Assumes nothing.
use mathlib.Core.Path.{◌≡◌, refl}
use mathlib.Core.Bool.{Bool, true, false, not, cond}
use lib.Dec.{T}
use lib.Count.{count_trailing_zeros}
use lib.Ieee.{Float, nan, inf, fin, of_bits, is_nan, lt, mul, div, round, size, span, climb, units}
use lib.Ieee.{odd}
use Rattle.float32.specs.Order.{minimum}
use Rattle.float32.specs.Remainder.{zero}
use Rattle.float32.specs.Value.{moved}
use Rattle.lists.specs.Interpolation.{interp}
use Rattle.power.specs.Table.{power_table}
use Rattle.power.specs.Power.{power_at, power_of, E2}
use Rattle.decibels.specs.Gain.{gain_of}
use Rattle.masks.specs.Manual.{muted, curve_gain}
use Rattle.masks.specs.Counted.{silent_db, counted_as}

silent-is-zero : gain_of silent_db ≡ zero
unfolding of_bits E2 power_of power_at moved interp power_table odd count_trailing_zeros div mul round size span climb units is_nan
silent-is-zero = refl

chosen : (b : Bool) (db : Float) → gain_of (cond b silent_db db) ≡ cond b zero (gain_of db)
chosen true db = silent-is-zero
chosen false db = refl

pub counted-gain : (db : Float) → gain_of (counted_as db) ≡ curve_gain db
unfolding counted_as curve_gain
counted-gain db = chosen (muted db) (minimum db zero)

-- ---- no NaN, whatever the curve value: the lesser of NaN and 0 is 0
either :
    (c : Bool) (x y : Float) → T (not (is_nan x)) → T (not (is_nan y)) → T (not (is_nan (cond c x y)))
either true x y p q = p
either false x y p q = q

lesser-no-nan : (db : Float) → T (not (is_nan (minimum db zero)))
unfolding minimum of_bits lt is_nan
lesser-no-nan nan = tt
lesser-no-nan (inf true) = tt
lesser-no-nan (inf false) = tt
lesser-no-nan (fin s m e) = either (lt zero (fin s m e)) zero (fin s m e) tt tt

pub counted-no-nan : (db : Float) → T (not (is_nan (counted_as db)))
unfolding counted_as of_bits is_nan
counted-no-nan db = either (muted db) silent_db (minimum db zero) tt (lesser-no-nan db)
