-- A float put together: the pattern k * 2 ^ 23 + q is that of q * 2 ^ (k - 149), for a q of 24
-- digits, since the leading digit of q adds one to the exponent's field. Assumes nothing.
use Rattle.std.proofs.Common.{◌≡◌, ℕ, suc, ◌+◌, ◌-◌, ◌*◌, ◌/◌, ◌%◌, ◌<◌, ◌≤◌, Bool, false, cond, not, T, eqb, leb, sym, ap, ◌∙◌, subst, arith, eqb→eq, leb→le}
use lib.Dec.{not_T}
use lib.Arith.{le→nltb}
use lib.Ieee.{Float, nan, inf, binary32, odd, of_fields, of_bits, nan_bits, is_nan, ne}
use lib.Ieee.Bits.{is_false, cond_no, nan_bits_above}
use Rattle.float32.proofs.Fields.{of_bits_is}
use Rattle.float32.proofs.Patterns.{nan-test}

module _ (k q : ℕ) (K : k ≤ 253) (L : 8388608 ≤ q) (H : q < 16777216) where
  under_ones : of_fields binary32 false (suc k) (q - 8388608) ≡ odd 24 false q k 149
  unfolding of_fields
  under_ones =
      cond_no (eqb (suc k) 255) (cond (eqb (q - 8388608) 0) (inf false) nan) (odd 24 false (8388608 + (q - 8388608)) k 149) (not_T (eqb (suc k) 255) (λ t. differ (eqb→eq (suc k) 255 t)))
      ∙ ap (λ (z : ℕ). odd 24 false z k 149) whole
    where
      differ : suc k ≡ 255 → ⊥
      differ e = omega arith

      whole : 8388608 + (q - 8388608) ≡ q
      whole = omega arith

  pub made : of_bits binary32 (k * 8388608 + q) ≡ odd 24 false q k 149
  made =
      of_bits_is (k * 8388608 + q)
      ∙ ap (λ (s : Bool). of_fields binary32 s ((k * 8388608 + q) % 2147483648 / 8388608) ((k * 8388608 + q) % 8388608)) (is_false (leb 2147483648 (k * 8388608 + q)) (not_T (leb 2147483648 (k * 8388608 + q)) (λ t. plus (leb→le 2147483648 (k * 8388608 + q) t))))
      ∙ ap (λ (z : ℕ). of_fields binary32 false z ((k * 8388608 + q) % 8388608)) field ∙ ap (λ (z : ℕ). of_fields binary32 false (suc k) z) digits ∙ under_ones
    where
      plus : 2147483648 ≤ k * 8388608 + q → ⊥
      plus h = omega arith

      field : (k * 8388608 + q) % 2147483648 / 8388608 ≡ suc k
      field = omega arith

      digits : (k * 8388608 + q) % 8388608 ≡ q - 8388608
      digits = omega arith

  pub made-no-nan : T (not (nan_bits binary32 (k * 8388608 + q)))
  made-no-nan = rw (nan_bits_above binary32 (k * 8388608 + q)) (le→nltb 2139095040 ((k * 8388608 + q) % 2147483648) (omega arith))

-- what `x != x` leaves
pub no_nan : (x : Float) → T (not (ne x x)) → T (not (is_nan x))
no_nan x t = subst (λ (b : Bool). T (not b)) (sym (nan-test x)) t
