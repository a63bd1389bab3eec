-- The Gaussian table has 1,025 entries, and each is document 01's exp(-i/128): one test runs over
-- the bits of the whole table. Assumes nothing.
use mathlib.Core.Path.{◌≡◌, refl, sym, ap, ◌∙◌}
use mathlib.Core.Bool.{Bool}
use Prim.Native.Nat.{ℕ, ◌≤◌}
use native.Mathlib.Omega.{arith}
use lib.Dec.{T, eqb, eqb→eq}
use lib.Count.{count_trailing_zeros}
use lib.ListN.{length, get_or, length-map, get_or-map}
use lib.Ieee.{Float, nan, inf, fin, binary32, fits, of_bits, to_bits, of_int, neg, div, mul, is_nan, round, size, span, climb, units, odd, of_fields}
use lib.Ieee.Bits.{of_bits-to_bits}
use Rattle.float_laws.specs.Units.{real}
use Rattle.lists.specs.Tested.{every, every-at}
use Rattle.lists.specs.Interpolation.{interp}
use Rattle.float32.specs.Value.{moved}
use Rattle.power.specs.Table.{power_table}
use Rattle.power.specs.Power.{power_at, power_of, E2}
use Rattle.power.proofs.Bases.{exp-real}
use Rattle.gaussian.specs.Table.{gaussian_lut_steps, gaussian_bits, gaussian_table, G}
use Rattle.gaussian.specs.Rule.{entry_of}

abbrev is_entry : ℕ → ℕ → Bool
is_entry i bits = eqb (to_bits binary32 (entry_of i)) bits

all-entries : T (every is_entry 0 gaussian_bits)
unfolding gaussian_bits E2 power_of power_at moved interp power_table is_nan to_bits of_bits of_fields of_int neg div mul round size span climb units odd count_trailing_zeros
all-entries = tt

bits-length : length gaussian_bits ≡ 1025
unfolding gaussian_bits
bits-length = refl

pub gaussian-length : length gaussian_table ≡ 1025
unfolding gaussian_table
gaussian-length = length-map gaussian_bits (of_bits binary32) ∙ bits-length

-- past the end of the table there are the bits of a NaN
abbrev no_bits : ℕ
no_bits = 0x7fc0_0000

of-bits : (i : ℕ) → G i ≡ of_bits binary32 (get_or gaussian_bits i no_bits)
unfolding gaussian_table of_bits
of-bits i = get_or-map (of_bits binary32) gaussian_bits i no_bits

real-fits : (x : Float) → T (real binary32 x) → T (fits binary32 x)
real-fits nan p = absurd p
real-fits (inf s) p = absurd p
real-fits (fin s m e) p = p

pub G-rule : (i : ℕ) → i ≤ gaussian_lut_steps → G i ≡ entry_of i
G-rule i h =
    let t = every-at no_bits is_entry gaussian_bits all-entries i (rw bits-length (omega arith)) in
    of-bits i ∙ ap (of_bits binary32) (sym (eqb→eq (to_bits binary32 (entry_of i)) (get_or gaussian_bits i no_bits) t)) ∙ of_bits-to_bits binary32 (entry_of i) (real-fits (entry_of i) (exp-real _))
