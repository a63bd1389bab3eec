-- Every case of the list holds. Powers and table entries are computed; a logarithm of a power of
-- two is its exponent by a law, since the search for F is no computation to run. Assumes nothing.
use mathlib.Core.Path.{refl}
use mathlib.Core.Bool.{false}
use lib.Dec.{lit≤}
use lib.IntN.{pos}
use lib.Count.{count_trailing_zeros}
use lib.Ieee.{fin, of_bits, of_fields, odd, is_nan, round, size, span, climb, units}
use Rattle.lists.specs.Interpolation.{interp}
use Rattle.float32.specs.Value.{moved}
use Rattle.power.specs.Table.{power_table}
use Rattle.power.specs.Power.{power_at, power_of, E2}
use Rattle.power.specs.Log.{rounded}
use Rattle.power.proofs.LogRange.{L2-of-power}
use Rattle.sine.specs.Table.{half_angle_cosines, sine_table}
use Rattle.pitch.proofs.InTune.{note-69, note-57}
use Rattle.masks.proofs.Points.{point-8192-1, point-64-1}
use Rattle.masks.proofs.Curve.{curve-mute, curve-six}
use Rattle.windows.proofs.FourOnes.{dual-of-four-ones}
use Rattle.smoothing.proofs.ThreeOnes.{softened-three-ones}
use Rattle.proved_cases.specs.Cases.{Holds, cases}

pub all_hold : Holds cases
unfolding E2 power_of power_at interp moved power_table of_bits of_fields odd count_trailing_zeros is_nan rounded round size span climb units half_angle_cosines sine_table
all_hold = (
  refl,
  (
    refl,
    (
      refl,
      (
        refl,
        (
          L2-of-power (fin false 1 (pos 0)) 126 (lit≤ tt) (refl, refl),
          (
            L2-of-power (fin false 1 (pos 3)) 129 (lit≤ tt) (refl, refl),
            (
              refl,
              (
                refl,
                (note-69, (note-57, (curve-mute, (curve-six, (point-8192-1, (point-64-1, (dual-of-four-ones, (softened-three-ones, tt)))))))),
              ),
            ),
          ),
        ),
      ),
    ),
  ),
)
