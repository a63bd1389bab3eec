-- The Gaussian table by its rule: entry 0 is 1, every entry is in 0..1, and none is above the one
-- before it, as exp never falls. Assumes nothing.
use mathlib.Core.Path.{◌≡◌, refl, sym, subst}
use mathlib.Core.Bool.{not}
use Prim.Native.Nat.{ℕ, ◌+◌, ◌≤◌, min, zero-le}
use native.Mathlib.Nat.{le_trans}
use native.Mathlib.Omega.{arith}
use lib.Dec.{T, lit≤}
use lib.IntN.{pos}
use lib.Ieee.{Float, nan, inf, fin, Format, binary32, of_bits, of_int, neg, div, le, is_nan}
use Rattle.float_laws.specs.Units.{number, real-number}
use Rattle.float_laws.specs.Mono.{le-neg}
use Rattle.float_laws.specs.Inf.{div-by, div-by-number}
use Rattle.float_laws.specs.Bounds.{one}
use Rattle.float_laws.specs.Rise.{Upto, upto-level}
use Rattle.float_laws.specs.Exact.{real-whole}
use Rattle.power.proofs.Bases.{exp-mono, exp-real, exp-nonneg}
use Rattle.gaussian.specs.Table.{gaussian_lut_steps, gaussian_bits, gaussian_table, G}
use Rattle.gaussian.specs.Rule.{steps_to_one, entry_of}
use Rattle.gaussian.proofs.Rule.{G-rule}
use Rattle.gaussian.proofs.Fraction.{whole-mono}

-- ---- i/128
abbrev part : ℕ → Float
part i = div binary32 (of_int binary32 (pos i)) steps_to_one

pub no_nan : (f : Format) (x : Float) → T (number f x) → T (not (is_nan x))
unfolding is_nan
no_nan f nan p = p
no_nan f (inf s) p = tt
no_nan f (fin s m e) p = tt

part-number : (i : ℕ) → i ≤ gaussian_lut_steps → T (number binary32 (part i))
unfolding of_bits
part-number i h = let x = of_int binary32 (pos i) in div-by-number binary32 steps_to_one tt x (no_nan binary32 x (real-number binary32 x (real-whole binary32 i (le_trans h (lit≤ tt)))))

part-mono : (i j : ℕ) → i ≤ j → j ≤ gaussian_lut_steps → T (le (part i) (part j))
unfolding of_bits
part-mono i j l h = div-by binary32 steps_to_one tt (of_int binary32 (pos i)) (of_int binary32 (pos j)) (whole-mono binary32 i j l (le_trans h (lit≤ tt)))

-- ---- exp of its negative
pub G-falls : (i j : ℕ) → i ≤ j → j ≤ gaussian_lut_steps → T (le (G j) (G i))
G-falls i j l h =
    let g = le_trans l h in
    rw (G-rule i g, G-rule j h) (exp-mono (neg (part j)) (neg (part i)) (le-neg binary32 (part i) (part j) (part-number i g) (part-number j h) (part-mono i j l h)))

pub G-first : G 0 ≡ one
unfolding gaussian_table gaussian_bits of_bits
G-first = refl

pub G-upto : (i : ℕ) → i ≤ gaussian_lut_steps → Upto binary32 0 (G i)
G-upto i h =
    let most = subst (λ (x : Float). T (le (G i) x)) G-first (G-falls 0 i zero-le h) in
    subst (Upto binary32 0) (sym (G-rule i h)) (upto-level binary32 (entry_of i) (exp-real _) (exp-nonneg _) (subst (λ (x : Float). T (le x one)) (G-rule i h) most))

-- the entry on the right of one, which for the last is itself
pub right-falls : (left : ℕ) → left ≤ gaussian_lut_steps → T (le (G (min (left + 1) gaussian_lut_steps)) (G left))
right-falls left h = G-falls left (min (left + 1) gaussian_lut_steps) (omega (arith, h)) (omega arith)
