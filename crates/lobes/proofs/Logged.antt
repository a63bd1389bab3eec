-- The octaves of the partials 0 to 24, computed: L2 in the form that a test can compute. Assumes
-- nothing.
use mathlib.Core.Path.{◌≡◌, refl, sym, ◌∙◌}
use mathlib.Core.Bool.{Bool, true, false, cond}
use mathlib.Core.List.{List, [], ◌∷◌, map}
use Prim.Native.Nat.{ℕ, zero, suc}
use lib.IntN.{pos}
use lib.Count.{count_trailing_zeros}
use lib.Ieee.{Float, binary32, of_bits, of_fields, of_int, le, add, sum, div, mul, round, size, span, climb, units, odd}
use Rattle.lists.specs.Maps.{tab_from, tabulate}
use Rattle.lists.specs.Interpolation.{interp}
use Rattle.power.specs.Table.{power_table}
use Rattle.power.specs.Power.{positive_zero}
use Rattle.power.specs.Log.{positive_normal, units_of, rounded, L2}
use Rattle.power.proofs.Logs.{L2-elsewhere}
use Rattle.power.proofs.LogComputed.{log_of_units, L2-computed}
use Rattle.lobes.specs.Tone.{octaves_of, partial_octaves}

abbrev computed : Float → Float
computed v = cond (positive_normal v) (log_of_units (units_of v)) positive_zero

L2-is : (v : Float) → L2 v ≡ computed v
L2-is v = go (positive_normal v) refl
  where
    go : (b : Bool) → positive_normal v ≡ b → L2 v ≡ cond b (log_of_units (units_of v)) positive_zero
    go true e = L2-computed v (rw e tt)
    go false e = L2-elsewhere v e

abbrev octave_bits : List ℕ
octave_bits =
    0x00000000 ∷ 0x00000000 ∷ 0x3f800000 ∷ 0x3fcae00d ∷ 0x40000000 ∷ 0x40149a78 ∷ 0x40257006 ∷
    0x4033abb4 ∷ 0x40400000 ∷ 0x404ae00d ∷ 0x40549a78 ∷ 0x405d6754 ∷ 0x40657006 ∷ 0x406cd401 ∷
    0x4073abb4 ∷ 0x407a0a7e ∷ 0x40800000 ∷ 0x4082cc7f ∷ 0x40857006 ∷ 0x4087ef06 ∷ 0x408a4d3c ∷
    0x408c8ddd ∷ 0x408eb3aa ∷ 0x4090c105 ∷ 0x4092b803 ∷ []

all-computed : tabulate 25 (λ (partial : ℕ). computed (of_int binary32 (pos partial))) ≡ map (of_bits binary32) octave_bits
unfolding tab_from of_bits of_fields odd count_trailing_zeros add sum of_int div mul round size span climb units le interp power_table units_of rounded
all-computed = refl

same_entries : (j n : ℕ) → tab_from (λ (partial : ℕ). computed (of_int binary32 (pos partial))) j n ≡ tab_from octaves_of j n
unfolding tab_from
same_entries j zero = refl
same_entries j (suc n) = rw (same_entries (suc j) n, L2-is (of_int binary32 (pos j))) refl

pub octaves-listed : map (of_bits binary32) octave_bits ≡ partial_octaves
unfolding partial_octaves
octaves-listed = sym all-computed ∙ same_entries 0 25
