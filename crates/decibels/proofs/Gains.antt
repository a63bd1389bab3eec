-- Gains of decibels: they never fall, are finite and never negative, at most 1 up to 0 dB and at
-- least 1 from 0 dB up, and 6 and 12 dB have the bounds 2 and 4.
-- The quotient by 20 keeps the order and leaves 0 as it is; the rest is powf(10, y)'s and two
-- values that antt computes. Assumes nothing.
use mathlib.Core.Path.{◌≡◌, refl}
use mathlib.Core.Bool.{false}
use lib.Dec.{T}
use lib.IntN.{pos}
use lib.Count.{count_trailing_zeros}
use lib.Ieee.{Float, fin, binary32, le, mul, div, of_bits, round, size, span, climb, units, odd, is_nan, fits}
use lib.Ieee.Positive.{positive}
use Rattle.float_laws.specs.Units.{number, real, real-number}
use Rattle.float_laws.specs.Order.{le-trans-f}
use Rattle.float_laws.specs.Bounds.{one}
use Rattle.float_laws.specs.Inf.{div-by}
use Rattle.float32.specs.Value.{moved}
use Rattle.lists.specs.Interpolation.{interp}
use Rattle.power.specs.Table.{power_table}
use Rattle.power.specs.Power.{positive_zero, power_at, power_of, E2}
use Rattle.power.proofs.Bases.{pow10-mono, pow10-nonneg, pow10-real, pow10-at-most-one, pow10-at-least-one}
use Rattle.decibels.specs.Gain.{decibels_per_decade, gain_of}

-- ---- the quotient
above : T (positive decibels_per_decade)
unfolding of_bits
above = tt

quotient-mono : (x y : Float) → T (le x y) → T (le (div binary32 x decibels_per_decade) (div binary32 y decibels_per_decade))
quotient-mono = div-by binary32 decibels_per_decade above

quotient-zero : div binary32 positive_zero decibels_per_decade ≡ positive_zero
unfolding of_bits div round size span climb units odd count_trailing_zeros
quotient-zero = refl

-- ---- for every db
pub gain-never-falls : (x y : Float) → T (le x y) → T (le (gain_of x) (gain_of y))
gain-never-falls x y h = pow10-mono _ _ (quotient-mono x y h)

pub gain-nonneg : (db : Float) → T (le positive_zero (gain_of db))
gain-nonneg db = pow10-nonneg _

pub gain-real : (db : Float) → T (real binary32 (gain_of db))
gain-real db = pow10-real _

pub gain-number : (db : Float) → T (number binary32 (gain_of db))
gain-number db = real-number binary32 (gain_of db) (gain-real db)

-- ---- about 0 dB
pub gain-of-zero : gain_of positive_zero ≡ one
unfolding E2 power_of power_at moved interp power_table odd count_trailing_zeros is_nan of_bits div mul round size span climb units
gain-of-zero = refl

pub gain-at-most-one : (db : Float) → T (le db positive_zero) → T (le (gain_of db) one)
gain-at-most-one db h = pow10-at-most-one _ (rw quotient-zero at (quotient-mono db positive_zero h))

pub gain-at-least-one : (db : Float) → T (le positive_zero db) → T (le one (gain_of db))
gain-at-least-one db h = pow10-at-least-one _ (rw quotient-zero at (quotient-mono positive_zero db h))

-- ---- up to 6 dB and up to 12 dB
abbrev pub six : Float
six = fin false 3 (pos 1)

abbrev pub twelve : Float
twelve = fin false 3 (pos 2)

abbrev pub two : Float
two = fin false 1 (pos 1)

abbrev pub four : Float
four = fin false 1 (pos 2)

gain-of-six : T (le (gain_of six) two)
unfolding E2 power_of power_at moved interp power_table odd count_trailing_zeros is_nan of_bits div mul round size span climb units le
gain-of-six = tt

gain-of-twelve : T (le (gain_of twelve) four)
unfolding E2 power_of power_at moved interp power_table odd count_trailing_zeros is_nan of_bits div mul round size span climb units le
gain-of-twelve = tt

bounded : (x top db : Float) → T (number binary32 top) → T (le (gain_of x) top) → T (le db x) → T (le (gain_of db) top)
bounded x top db p h l = le-trans-f binary32 (gain_of db) (gain_of x) top (gain-number db) (gain-number x) p (gain-never-falls db x l) h

pub gain-at-most-two : (db : Float) → T (le db six) → T (le (gain_of db) two)
unfolding fits
gain-at-most-two db = bounded six two db tt gain-of-six

pub gain-at-most-four : (db : Float) → T (le db twelve) → T (le (gain_of db) four)
unfolding fits
gain-at-most-four db = bounded twelve four db tt gain-of-twelve
