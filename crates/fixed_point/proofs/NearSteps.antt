-- The floor of an f32 from 2 ^ -18 to 2 ^ 9 in size in steps of 2 ^ -24, by the sum with
-- 2 ^ 11 + 2 ^ 10: between 2 ^ 11 and 2 ^ 12 the last digit of an f64 is 2 ^ -41, as is that of the
-- least of these, so that the sum is exact. Assumes nothing.
use mathlib.Core.Path.{◌≡◌, refl, ap, sym, subst, ◌∙◌}
use mathlib.Core.Bool.{Bool, true, false, not}
use Prim.Native.Nat.{ℕ, ◌+◌, ◌-◌, ◌*◌, ◌/◌, ◌^◌, ◌≤◌}
use native.Mathlib.Nat.{le_trans, le_of_eq, mul_assoc, mul_right_comm, mul-le-mul_right, eq_of_mul-eq-mul_right, le_of_mul-le-mul_right}
use native.Mathlib.Omega.{arith}
use lib.Dec.{T, lit≤}
use lib.IntN.{pos}
use lib.Pow.{pow_pos, pow-add}
use lib.Bits.{bit_and, and_mask}
use lib.Ieee.{Float, nan, inf, fin, Format, binary32, binary64, up, down, le, neg, fits, is_nan, add, to_bits}
use lib.Ieee.Fits.{down_pos}
use lib.Ieee.Scale.{overflow}
use Rattle.float_laws.specs.Units.{mag, sign, real, key, keyed, real-number, mag-exact, le→key}
use Rattle.float_laws.specs.Round.{held-real}
use Rattle.float_laws.specs.Exact.{held-multiple}
use Rattle.float_laws.specs.Steps.{signed-real, signed-exact, number-no-nan}
use Rattle.float32.specs.Value.{floor_at, moved}
use Rattle.float32.specs.Order.{within, magnitude}
use Rattle.fixed_point.specs.Fixed.{nearby, least}
use Rattle.float32.proofs.Magnitude.{magnitude-clear, magnitude-size, magnitude-is-number}
use Rattle.float32.proofs.Floor.{floor_at-same}
use Rattle.fixed_point.proofs.Wide.{moved-wide, wide-real, wide-size}

-- 2 ^ 11 + 2 ^ 10, which is 3 * 2 ^ 51 digits
abbrev large : Float
large = fin false 3 (pos 10)

large-real : T (real binary64 large)
unfolding fits
large-real = tt

least-real : T (real binary32 least)
unfolding fits
least-real = tt

least-key : key binary32 least ≡ overflow binary32 + 2 ^ 131
unfolding mag
least-key = refl

large-key : key binary64 large ≡ overflow binary64 + 3 * 2 ^ 51 * 2 ^ 1033
unfolding mag
large-key = refl

-- ---- f64 has 2 ^ 925 units to each of f32
finer : (x : Float) → T (real binary32 x) → T (real binary64 x) → mag binary64 x ≡ mag binary32 x * 2 ^ 925
finer nan p q = absurd p
finer (inf s) p q = absurd p
finer (fin s m e) p q =
    eq_of_mul-eq-mul_right (down e) (down_pos e) (mag binary64 (fin s m e)) (mag binary32 (fin s m e) * 2 ^ 925)
    (mag-exact binary64 s m e q
    ∙ sym (mul_assoc (m * up e) (2 ^ 149) (2 ^ 925))
    ∙ ap (λ (z : ℕ). z * 2 ^ 925) (sym (mag-exact binary32 s m e p))
    ∙ mul_right_comm (mag binary32 (fin s m e)) (down e) (2 ^ 925))

module _ (x : Float) (F : T (fits binary32 x)) (w : T (within (neg nearby) nearby x)) (l : T (le least (magnitude x))) where
  abbrev f : Format
  f = binary64

  finite : T (real f x)
  finite = wide-real 9 (lit≤ tt) x F w

  finite-32 : (y : Float) → T (fits binary32 y) → T (real binary64 y) → T (real binary32 y)
  finite-32 nan h p = p
  finite-32 (inf s) h p = p
  finite-32 (fin s m e) h p = h

  size_is : mag f x ≤ 2 ^ 50 * 2 ^ 1033
  size_is = wide-size 9 (lit≤ tt) x F w

  pub near-no-nan : T (not (is_nan (add binary64 x large)))
  near-no-nan =
      number-no-nan f (add f x large)
      (real-number f (add f x large) (signed-real f x large 1033 (3 * 2 ^ 51) (2 ^ 50) finite large-real large-key size_is (lit≤ tt) (lit≤ tt) (lit≤ tt)))

  -- ---- no digit of x is below 2 ^ -41
  at_least : 2 ^ 131 ≤ mag binary32 x
  at_least =
      above (overflow binary32) (2 ^ 131) (mag binary32 x) (key binary32 (magnitude x))
      (ap (λ (b : Bool). keyed (overflow binary32) b (mag binary32 (magnitude x))) (magnitude-clear x) ∙ ap (λ (z : ℕ). overflow binary32 + z) (magnitude-size binary32 x))
      (subst (λ (z : ℕ). z ≤ key binary32 (magnitude x)) least-key (le→key binary32 least (magnitude x) least-real (magnitude-is-number binary32 x (real-number binary32 x (finite-32 x F finite))) l))
    where
      above : (K a b k : ℕ) → k ≡ K + b → K + a ≤ k → a ≤ b
      above K a b k e h = omega arith

  digits : (q : ℕ) × (mag f x ≡ q * 2 ^ 1033)
  digits =
      let (q, e) = held-multiple binary32 (mag binary32 x) 108 (held-real binary32 x (finite-32 x F finite)) (mul-le-mul_right 2 at_least) in
      (q, finer x (finite-32 x F finite) finite ∙ ap (λ (z : ℕ). z * 2 ^ 925) e ∙ mul_assoc q (2 ^ 108) (2 ^ 925))

  pub near-counted : bit_and (to_bits binary64 (add binary64 x large)) (2 ^ 52 - 1) / 2 ^ 17 ≡ moved (2 ^ 10) x
  near-counted =
      let (q, e) = digits in
      let b : q ≤ 2 ^ 50 = le_of_mul-le-mul_right {k = 2 ^ 1033} (le_trans (le_of_eq (sym e)) size_is) (pow_pos 1033) in
      ap (λ (z : ℕ). z / 2 ^ 17) (and_mask (to_bits f (add f x large)) 52 ∙ signed-exact f x large 1033 (3 * 2 ^ 51) (2 ^ 50) finite large-real large-key size_is (lit≤ tt) (lit≤ tt) (lit≤ tt) q e)
      ∙ cut (sign x) q b
      ∙ floor_at-same (sign x) (2 ^ 34) q (2 ^ 17) (mag f x) (2 ^ 1050) (pow_pos 17) (pow_pos 1050) (ap (λ (z : ℕ). q * z) (pow-add 2 1033 17) ∙ sym (mul_assoc q (2 ^ 1033) (2 ^ 17)) ∙ ap (λ (z : ℕ). z * 2 ^ 17) (sym e))
      ∙ sym (moved-wide (2 ^ 10) x finite)
    where
      cut : (s : Bool) (q : ℕ) → q ≤ 2 ^ 50 → (keyed (3 * 2 ^ 51) s q - 2 ^ 52) / 2 ^ 17 ≡ floor_at s (2 ^ 34) q (2 ^ 17)
      cut false q b = ap (λ (z : ℕ). z / 2 ^ 17) (let e : 3 * 2 ^ 51 + q - 2 ^ 52 ≡ 2 ^ 34 * 2 ^ 17 + q = omega arith in e)
      cut true q b = ap (λ (z : ℕ). z / 2 ^ 17) (let e : 3 * 2 ^ 51 - q - 2 ^ 52 ≡ 2 ^ 34 * 2 ^ 17 - q = omega arith in e)
