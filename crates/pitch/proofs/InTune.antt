-- Equal temperament: the 128 notes at tuning 0 are in tune, by one test that antt computes over all
-- of them; and A4 and the A below it are 440 and 220 Hz. Assumes nothing.
use mathlib.Core.Path.{◌≡◌, refl}
use mathlib.Core.Bool.{Bool, false, ◌&&◌}
use Prim.Native.Nat.{ℕ, ◌+◌, ◌-◌, ◌*◌, ◌^◌, ◌≤◌}
use native.Mathlib.Omega.{arith}
use lib.Dec.{T, leb, leb→le}
use lib.IntN.{pos}
use lib.Count.{count_trailing_zeros}
use lib.Ieee.{Float, fin, of_bits, of_int, add, sub, mul, div, neg, sum, round, size, span, climb, units, odd, is_nan}
use lib.Ieee.Fits.{and_l, and_r}
use Rattle.float32.specs.Value.{above, below, moved}
use Rattle.lists.specs.Interpolation.{interp}
use Rattle.lists.specs.Tested.{all_below, below_at}
use Rattle.power.specs.Table.{power_table}
use Rattle.power.specs.Power.{positive_zero, power_at, power_of, E2}
use Rattle.pitch.specs.Pitch.{note_hertz}
use Rattle.pitch.specs.Tune.{tune_bits, InTune}

abbrev lower : ℕ → ℕ → Float → Bool
lower bits note f = leb ((above f * (2 ^ bits - 1)) ^ 12 * 2 ^ 69) (440 ^ 12 * 2 ^ note * (below f * 2 ^ bits) ^ 12)

abbrev upper : ℕ → ℕ → Float → Bool
upper bits note f = leb (440 ^ 12 * 2 ^ note * (below f * 2 ^ bits) ^ 12) ((above f * (2 ^ bits + 1)) ^ 12 * 2 ^ 69)

abbrev hertz : ℕ → Float
hertz note = note_hertz note positive_zero

abbrev tuned : ℕ → Bool
tuned note = lower tune_bits note (hertz note) && upper tune_bits note (hertz note)

all-notes : T (all_below 128 tuned)
unfolding E2 power_of power_at moved interp power_table odd count_trailing_zeros is_nan of_bits of_int add sub mul div neg sum round size span climb units
all-notes = tt

pub equal-temperament : (note : ℕ) → note ≤ 127 → InTune tune_bits note (note_hertz note positive_zero)
equal-temperament note h =
    let t = below_at 128 tuned all-notes note (omega arith) in
    record {
      low = leb→le _ _ (and_l (lower tune_bits note (hertz note)) (upper tune_bits note (hertz note)) t);
      high = leb→le _ _ (and_r (lower tune_bits note (hertz note)) (upper tune_bits note (hertz note)) t);
    }

-- 440 is 55 * 2 ^ 3 and 220 is 55 * 2 ^ 2
pub note-69 : note_hertz 69 positive_zero ≡ fin false 55 (pos 3)
unfolding E2 power_of power_at moved interp power_table odd count_trailing_zeros is_nan of_bits of_int add sub mul div neg sum round size span climb units
note-69 = refl

pub note-57 : note_hertz 57 positive_zero ≡ fin false 55 (pos 2)
unfolding E2 power_of power_at moved interp power_table odd count_trailing_zeros is_nan of_bits of_int add sub mul div neg sum round size span climb units
note-57 = refl
