-- A proved case of document 01: "softening 1, 1, 1 keeps it". The logarithm of 1 is 0 by a law,
-- since the search for F is no computation to run; so are its decibels, and their gain is 1.
-- Assumes nothing.
use mathlib.Core.Path.{◌≡◌, refl}
use mathlib.Core.Bool.{false}
use mathlib.Core.List.{[], ◌∷◌}
use lib.Dec.{lit≤}
use lib.IntN.{pos}
use lib.Count.{count_trailing_zeros}
use lib.Ieee.{Float, fin, binary32, add, sum, mul, div, lt, is_nan, of_bits, of_fields, odd, round, size, span, climb, units}
use Rattle.lists.specs.Maps.{map_from}
use Rattle.lists.specs.Interpolation.{interp}
use Rattle.float32.specs.Order.{maximum}
use Rattle.float32.specs.Value.{moved}
use Rattle.power.specs.Table.{power_table}
use Rattle.power.specs.Power.{power_at, power_of, E2}
use Rattle.power.specs.Log.{rounded, L2}
use Rattle.power.proofs.LogRange.{L2-of-power}
use Rattle.smoothing.specs.Smoothing.{decibels_of, softened, softened_of}

abbrev zero : Float
zero = fin false 0 (pos 0)

abbrev pub one : Float
one = fin false 1 (pos 0)

log-of-one : L2 (maximum one (of_bits binary32 0x358637bd)) ≡ zero
unfolding maximum lt is_nan of_bits of_fields odd count_trailing_zeros rounded round size span climb units
log-of-one = L2-of-power one 126 (lit≤ tt) (refl, refl)

decibels-of-one : decibels_of one ≡ zero
unfolding mul of_bits of_fields odd count_trailing_zeros round size span climb units
decibels-of-one = rw log-of-one

between-zeros : softened zero zero zero ≡ one
unfolding add sum mul div of_bits of_fields odd count_trailing_zeros round size span climb units E2 power_of power_at interp moved power_table is_nan
between-zeros = refl

pub softened-three-ones : softened_of (one ∷ one ∷ one ∷ []) ≡ one ∷ one ∷ one ∷ []
unfolding softened_of map_from
softened-three-ones = rw (decibels-of-one, between-zeros)
