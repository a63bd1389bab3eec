-- NaN and bit patterns: what `x != x` tests, which patterns are a NaN's, and the pattern of the
-- magnitude. A pattern's top bit is the sign alone, and the patterns above an infinity's are the
-- NaNs'. Assumes nothing.
use Rattle.std.proofs.Common.{◌≡◌, ℕ, zero, suc, ◌+◌, ◌/◌, ◌%◌, ◌<◌, ◌≤◌, Bool, true, false, cond, not, T, eqb, leb, sym, refl, ap, ◌∙◌, subst, mod-eq_of_lt, arith, le-ltb, lt-ltb}
use lib.Bits.{bit_and, and_mask}
use lib.Ieee.{Float, nan, inf, fin, binary32, fits, ne, is_nan, nan_bits, of_bits, to_bits, of_fields, odd}
use lib.Ieee.Compare.{differs_from_itself, nan_differs}
use lib.Ieee.Bits.{nan_bits_is, nan_bits_above, of_bits-to_bits}
use borrow.Author.Tests.{lt-leb}
use Rattle.float32.specs.Order.{magnitude}
use Rattle.float32.proofs.Fields.{same_test, of_bits_is}

-- ---- x != x
nan-of : (x : Float) → T (is_nan x) → x ≡ nan
unfolding is_nan
nan-of nan t = refl
nan-of (inf s) t = absurd t
nan-of (fin s m e) t = absurd t

is-nan-nan : T (is_nan nan)
unfolding is_nan
is-nan-nan = tt

pub nan-test : (x : Float) → is_nan x ≡ ne x x
nan-test x =
    same_test (is_nan x) (ne x x) (λ t. subst (λ (y : Float). T (ne y y)) (sym (nan-of x t)) (subst T (sym nan_differs) tt))
    (λ t. subst (λ (y : Float). T (is_nan y)) (sym (differs_from_itself x t)) is-nan-nan)

pub tested-nan : (x : Float) → ne x x ≡ true → x ≡ nan
tested-nan x e = differs_from_itself x (subst T (sym e) tt)

pub tested-number : (x : Float) → ne x x ≡ false → T (not (is_nan x))
tested-number x e = subst (λ (b : Bool). T (not b)) (sym (nan-test x ∙ e)) tt

-- ---- patterns, the sign masked away
module _ (n : ℕ) where
  pub pattern-nan : 2139095040 < bit_and n 2147483647 → of_bits binary32 n ≡ nan
  pattern-nan h = nan-of (of_bits binary32 n) (subst T (sym (lt-ltb 2139095040 (n % 2147483648) (rw (and_mask n 31) at h)) ∙ sym (nan_bits_above binary32 n) ∙ nan_bits_is binary32 n) tt)

  pub pattern_number : bit_and n 2147483647 ≤ 2139095040 → T (not (nan_bits binary32 n))
  pattern_number h = subst (λ (b : Bool). T (not b)) (sym (nan_bits_above binary32 n ∙ le-ltb 2139095040 (n % 2147483648) (rw (and_mask n 31) at h))) tt

-- ---- clearing the sign
magnitude-odd : (s : Bool) (q k : ℕ) → magnitude (odd 24 s q k 149) ≡ odd 24 false q k 149
unfolding magnitude odd
magnitude-odd s zero k = refl
magnitude-odd s (suc q) k = refl

magnitude-fields : (s : Bool) (x t : ℕ) → magnitude (of_fields binary32 s x t) ≡ of_fields binary32 false x t
unfolding of_fields magnitude
magnitude-fields s zero t = magnitude-odd s t 0
magnitude-fields s (suc x) t = go (eqb (suc x) 255) (eqb t 0)
  where
    go : (a c : Bool) → magnitude (cond a (cond c (inf s) nan) (odd 24 s (8388608 + t) x 149)) ≡ cond a (cond c (inf false) nan) (odd 24 false (8388608 + t) x 149)
    go true true = refl
    go true false = refl
    go false c = magnitude-odd s (8388608 + t) x

cleared : (b : ℕ) → of_bits binary32 (b % 2147483648) ≡ of_fields binary32 false (b % 2147483648 / 8388608) (b % 8388608)
cleared b =
    let h : b % 2147483648 < 2147483648 = omega arith in
    let d : b % 2147483648 % 8388608 ≡ b % 8388608 = omega arith in
    of_bits_is (b % 2147483648) ∙ rw (mod-eq_of_lt h, d, lt-leb 2147483648 (b % 2147483648) h)

same_kind : (x : Float) → is_nan (magnitude x) ≡ is_nan x
unfolding magnitude is_nan
same_kind nan = refl
same_kind (inf s) = refl
same_kind (fin s m e) = refl

module _ (x : Float) (F : T (fits binary32 x)) where
  pub magnitude-pattern : of_bits binary32 (bit_and (to_bits binary32 x) 2147483647) ≡ magnitude x
  magnitude-pattern =
      let b = to_bits binary32 x in
      ap (of_bits binary32) (and_mask b 31) ∙ cleared b ∙ sym (magnitude-fields (leb 2147483648 b) (b % 2147483648 / 8388608) (b % 8388608)) ∙ ap magnitude (sym (of_bits_is b) ∙ of_bits-to_bits binary32 x F)

  pub magnitude-number : T (not (is_nan x)) → T (not (nan_bits binary32 (bit_and (to_bits binary32 x) 2147483647)))
  magnitude-number n = subst (λ (b : Bool). T (not b)) (sym (nan_bits_is binary32 (bit_and (to_bits binary32 x) 2147483647) ∙ ap is_nan magnitude-pattern ∙ same_kind x)) n
