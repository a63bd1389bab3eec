-- The square root case by case, for a float taken apart: each way out of the code gives what the
-- definition gives. Assumes nothing.
use mathlib.Core.Path.{◌≡◌, refl, sym, ap, ◌∙◌, subst}
use mathlib.Core.Bool.{Bool, true, false, true≢false}
use Prim.Native.Nat.{ℕ, zero, suc, ◌+◌, ◌*◌, ◌^◌, ◌≤◌, ◌<◌}
use native.Mathlib.Nat.{zero-mul, zero-lt-suc, le_trans, le_of_eq, lt_of_lt_of_le, mul-pos, mul-le-mul, mul-one, not-le_of_lt, lt_irrefl, eq_of_mul-eq-mul_right}
use native.Mathlib.Omega.{arith}
use lib.Dec.{T}
use lib.IntN.{ℤ}
use lib.Pow.{pow_pos, pow_mono, shl_lt}
use lib.Ieee.{Float, nan, inf, fin, binary32, up, down, fits, ne, div, of_bits, of_fields, odd}
use lib.Ieee.Fits.{up_pos, down_pos}
use lib.Ieee.Compare.{differs_from_itself}
use Rattle.float_laws.specs.Units.{mag, mag-exact, mag-below}
use Rattle.float32.specs.Value.{Decoded}
use Rattle.square_root.specs.Root.{nearest_root, square_root_of}

-- NaN
pub root-of-nan : (x : Float) → ne x x ≡ true → x ≡ square_root_of binary32 x
unfolding square_root_of
root-of-nan x t = let e = differs_from_itself x (subst T (sym t) tt) in e ∙ ap (square_root_of binary32) (sym e)

pub zero-over-zero : div binary32 (of_bits binary32 0) (of_bits binary32 0) ≡ nan
unfolding div of_bits of_fields odd
zero-over-zero = refl

not-zero : (n : ℕ) → 0 < n → n ≡ 0 → ⊥
not-zero n p e = lt_irrefl 0 (subst (λ (z : ℕ). 0 < z) e p)

no-digits : (k d : ℕ) → 0 * 2 ^ k * d ≡ 0
no-digits k d = ap (λ (z : ℕ). z * d) (zero-mul (2 ^ k)) ∙ zero-mul d

some-digits : (mant k d : ℕ) → (mant ≡ 0 → ⊥) → 0 < d → 0 < mant * 2 ^ k * d
some-digits zero k d n p = absurd (n refl)
some-digits (suc m) k d n p = mul-pos (mul-pos (zero-lt-suc m) (pow_pos k)) p

-- the two zeros
pub root-of-zero : (x : Float) (s : Bool) (mant expo : ℕ) → Decoded x s mant expo → mant ≡ 0 → x ≡ square_root_of binary32 x
unfolding square_root_of
root-of-zero nan s mant expo d z = refl
root-of-zero (inf t) s mant expo d z = absurd (not-zero (2 ^ 277) (pow_pos 277) (d.value ∙ ap (λ (m : ℕ). m * 2 ^ expo * 1) z ∙ no-digits expo 1))
root-of-zero (fin t zero e) s mant expo d z = refl
root-of-zero (fin t (suc m) e) s mant expo d z = absurd (not-zero (suc m * up e * 2 ^ 149) (mul-pos (mul-pos (zero-lt-suc m) (up_pos e)) (pow_pos 149)) (d.value ∙ ap (λ (m : ℕ). m * 2 ^ expo * down e) z ∙ no-digits expo (down e)))

zero-has-no-digits : (t s : Bool) (e : ℤ) (mant expo : ℕ) → Decoded (fin t zero e) s mant expo → (mant ≡ 0 → ⊥) → ⊥
zero-has-no-digits t s e mant expo d n =
    not-zero (mant * 2 ^ expo * down e) (some-digits mant expo (down e) n (down_pos e)) (sym d.value ∙ ap (λ (z : ℕ). z * 2 ^ 149) (zero-mul (up e)) ∙ zero-mul (2 ^ 149))

-- below zero
pub root-of-negative : (x : Float) (s : Bool) (mant expo : ℕ) → Decoded x s mant expo → (mant ≡ 0 → ⊥) → s ≡ true → nan ≡ square_root_of binary32 x
unfolding square_root_of
root-of-negative nan s mant expo d n g = refl
root-of-negative (inf true) s mant expo d n g = refl
root-of-negative (inf false) s mant expo d n g = absurd (true≢false (sym g ∙ sym d.sign))
root-of-negative (fin t zero e) s mant expo d n g = absurd (zero-has-no-digits t s e mant expo d n)
root-of-negative (fin true (suc m) e) s mant expo d n g = refl
root-of-negative (fin false (suc m) e) s mant expo d n g = absurd (true≢false (sym g ∙ sym d.sign))

-- a finite number in units
mag-of-parts : (t s : Bool) (m : ℕ) (e : ℤ) (mant expo : ℕ) → T (fits binary32 (fin t m e)) → Decoded (fin t m e) s mant expo → mag binary32 (fin t m e) ≡ mant * 2 ^ expo
mag-of-parts t s m e mant expo h d = eq_of_mul-eq-mul_right (down e) (down_pos e) (mag binary32 (fin t m e)) (mant * 2 ^ expo) (mag-exact binary32 t m e h ∙ d.value)

-- +infinity
pub root-of-infinity : (x : Float) (s : Bool) (mant expo : ℕ) → T (fits binary32 x) → Decoded x s mant expo → s ≡ false → 253 < expo → x ≡ square_root_of binary32 x
unfolding square_root_of
root-of-infinity nan s mant expo h d g l = refl
root-of-infinity (inf true) s mant expo h d g l = absurd (true≢false (d.sign ∙ g))
root-of-infinity (inf false) s mant expo h d g l = refl
root-of-infinity (fin t m e) s mant expo h d g l =
    absurd
    (not-le_of_lt (mag-below binary32 (fin t m e) h)
    (le_trans (mul-le-mul (d.full (positive expo l)) (pow_mono {i = 254} {j = expo} l)) (le_of_eq (sym (mag-of-parts t s m e mant expo h d)))))
  where
    positive : (k : ℕ) → 253 < k → 0 < k
    positive k h = omega arith

-- above zero
pub root-of-number : (x : Float) (s : Bool) (mant expo : ℕ) → T (fits binary32 x) → Decoded x s mant expo → (mant ≡ 0 → ⊥) → s ≡ false → expo ≤ 253
    → nearest_root binary32 (mant * 2 ^ expo * 2 ^ 149) ≡ square_root_of binary32 x
unfolding square_root_of
root-of-number nan s mant expo h d n g l = absurd (not-zero (mant * 2 ^ expo * 1) (some-digits mant expo 1 n (zero-lt-suc 0)) (sym d.value))
root-of-number (inf t) s mant expo h d n g l =
    absurd (lt_irrefl (2 ^ 277) (lt_of_lt_of_le (subst (λ (z : ℕ). z < 2 ^ (24 + expo)) (sym (d.value ∙ mul-one (mant * 2 ^ expo))) (shl_lt 24 expo d.small)) (pow_mono {i = 24 + expo} {j = 277} (few expo l))))
  where
    few : (k : ℕ) → k ≤ 253 → 24 + k ≤ 277
    few k h = omega arith
root-of-number (fin t zero e) s mant expo h d n g l = absurd (zero-has-no-digits t s e mant expo d n)
root-of-number (fin true (suc m) e) s mant expo h d n g l = absurd (true≢false (d.sign ∙ g))
root-of-number (fin false (suc m) e) s mant expo h d n g l = ap (λ (z : ℕ). nearest_root binary32 (z * 2 ^ 149)) (sym (mag-of-parts false s (suc m) e mant expo h d))
