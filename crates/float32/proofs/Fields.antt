-- A float's sign, exponent and digits by shifts and masks of its bit pattern, tied to its value: an
-- exponent field of 0 has no leading digit, any other has the digit 2 ^ 23, and the infinities'
-- field reads as 2 ^ 128. Assumes nothing.
use Rattle.std.proofs.Common.{◌≡◌, ℕ, zero, suc, ◌+◌, ◌-◌, ◌*◌, ◌/◌, ◌%◌, ◌^◌, ◌<◌, ◌≤◌, Bool, true, false, cond, not, T, eqb, leb, sym, refl, ap, ◌∙◌, subst, mod-lt, arith, lit<, le→leb, eqb→eq, leb→le}
use lib.Pow.{field}
use lib.Bits.{bit_and, bit_or, and_mask, or_shifted_r}
use lib.Ieee.{Float, nan, inf, fin, binary32, odd, of_fields, of_bits, to_bits, fits, is_nan}
use lib.Ieee.Fits.{eq→eqb}
use lib.Ieee.Bits.{of_bits-to_bits, to_bits-lt}
use lib.Ieee.Exact.{HasValue, odd_sign}
use Rattle.float32.specs.Value.{above, below, negative, Decoded}

-- two tests that pass together are one
pub same_test : (a b : Bool) → (T a → T b) → (T b → T a) → a ≡ b
same_test true true f g = refl
same_test true false f g = absurd (f tt)
same_test false true f g = absurd (g tt)
same_test false false f g = refl

-- ---- what the shifts and masks pick
sign-up : (b : ℕ) → b < 4294967296 → b / 2147483648 ≡ 1 → 2147483648 ≤ b
sign-up b h e = omega arith

sign-down : (b : ℕ) → b < 4294967296 → 2147483648 ≤ b → b / 2147483648 ≡ 1
sign-down b h e = omega arith

sign-is : (b : ℕ) → b < 4294967296 → leb 2147483648 b ≡ eqb (b / 2147483648) 1
sign-is b h = same_test (leb 2147483648 b) (eqb (b / 2147483648) 1) (λ t. eq→eqb (sign-down b h (leb→le 2147483648 b t))) (λ t. le→leb 2147483648 b (sign-up b h (eqb→eq (b / 2147483648) 1 t)))

field_is : (b : ℕ) → bit_and (b / 8388608) 255 ≡ b % 2147483648 / 8388608
field_is b = and_mask (b / 8388608) 8 ∙ sym (field b 8 23)

digits-is : (b : ℕ) → bit_and b 8388607 ≡ b % 8388608
digits-is b = and_mask b 23

full_is : (b : ℕ) → bit_or (bit_and b 8388607) 8388608 ≡ 8388608 + b % 8388608
full_is b = ap (λ (t : ℕ). bit_or t 8388608) (digits-is b) ∙ or_shifted_r 1 23 (b % 8388608) (mod-lt b (lit< tt))

-- ---- the value of the fields
pub of_bits_is : (b : ℕ) → of_bits binary32 b ≡ of_fields binary32 (leb 2147483648 b) (b % 2147483648 / 8388608) (b % 8388608)
unfolding of_bits
of_bits_is b = refl

-- the sign and the magnitude a / 2 ^ 149
abbrev Is : Float → Bool → ℕ → Type 0
Is x s a = (negative x ≡ s) × (above x * 2 ^ 149 ≡ a * below x)

of-value : (x : Float) (s : Bool) (a : ℕ) → HasValue x s a (2 ^ 149) → Is x s a
of-value nan s a h = absurd h
of-value (inf t) s a h = absurd h
of-value (fin t m e) s a h = h

at_low : (s : Bool) (t : ℕ) → Is (of_fields binary32 s 0 t) s (t * 2 ^ 0)
unfolding of_fields
at_low s t = of-value (odd 24 s t 0 149) s (t * 2 ^ 0) (odd_sign 24 s t 0 149)

at_high : (s : Bool) (k t : ℕ) → T (not (is_nan (of_fields binary32 s (suc k) t))) → Is (of_fields binary32 s (suc k) t) s ((8388608 + t) * 2 ^ k)
unfolding of_fields is_nan
at_high s k t f = go (eqb (suc k) 255) (eqb t 0) (eqb→eq (suc k) 255) (eqb→eq t 0) f
  where
    less : suc k ≡ 255 → k ≡ 254
    less e = omega arith

    go : (a c : Bool) → (T a → suc k ≡ 255) → (T c → t ≡ 0) → T (not (is_nan (cond a (cond c (inf s) nan) (odd 24 s (8388608 + t) k 149))))
        → Is (cond a (cond c (inf s) nan) (odd 24 s (8388608 + t) k 149)) s ((8388608 + t) * 2 ^ k)
    go true true n z f = (refl, rw (z tt, less (n tt)))
    go true false n z f = absurd f
    go false c n z f = of-value (odd 24 s (8388608 + t) k 149) s ((8388608 + t) * 2 ^ k) (odd_sign 24 s (8388608 + t) k 149)

module _ (x : Float) (F : T (fits binary32 x)) (f : T (not (is_nan x))) where
  abbrev bits : ℕ
  bits = to_bits binary32 x

  whole : x ≡ of_fields binary32 (eqb (bits / 2147483648) 1) (bits % 2147483648 / 8388608) (bits % 8388608)
  whole = sym (of_bits-to_bits binary32 x F) ∙ of_bits_is bits ∙ ap (λ (s : Bool). of_fields binary32 s (bits % 2147483648 / 8388608) (bits % 8388608)) (sign-is bits (to_bits-lt binary32 x F))

  pub decoded-low : bit_and (bits / 8388608) 255 ≡ 0 → Decoded x (eqb (bits / 2147483648) 1) (bit_and bits 8388607) 0
  decoded-low z =
      let s = eqb (bits / 2147483648) 1 in
      let e : x ≡ of_fields binary32 s 0 (bit_and bits 8388607) =
      whole ∙ ap (λ (k : ℕ). of_fields binary32 s k (bits % 8388608)) (sym (field_is bits) ∙ z) ∙ ap (λ (t : ℕ). of_fields binary32 s 0 t) (sym (digits-is bits)) in
      let v = subst (λ (y : Float). Is y s (bit_and bits 8388607 * 2 ^ 0)) (sym e) (at_low s (bit_and bits 8388607)) in
      record { sign = v.0; value = v.1; small = rw digits-is (omega arith); top = omega arith; full = λ h. absurd (no_less h) }
    where
      no_less : 0 < 0 → ⊥
      no_less h = omega arith

  pub decoded-high : (bit_and (bits / 8388608) 255 ≡ 0 → ⊥)
      → Decoded x (eqb (bits / 2147483648) 1) (bit_or (bit_and bits 8388607) 8388608) (bit_and (bits / 8388608) 255 - 1)
  decoded-high z = go (bits % 2147483648 / 8388608) refl (sym (field_is bits)) (under bits)
    where
      under : (b : ℕ) → b % 2147483648 / 8388608 < 256
      under b = omega arith

      less : (k : ℕ) → suc k - 1 ≡ k
      less k = omega arith

      go : (e : ℕ) → bits % 2147483648 / 8388608 ≡ e → e ≡ bit_and (bits / 8388608) 255 → e < 256
          → Decoded x (eqb (bits / 2147483648) 1) (bit_or (bit_and bits 8388607) 8388608) (bit_and (bits / 8388608) 255 - 1)
      go zero p q h = absurd (z (sym q))
      go (suc k) p q h =
          let s = eqb (bits / 2147483648) 1 in
          let w : x ≡ of_fields binary32 s (suc k) (bits % 8388608) = whole ∙ ap (λ (e : ℕ). of_fields binary32 s e (bits % 8388608)) p in
          let a = at_high s k (bits % 8388608) (subst (λ (y : Float). T (not (is_nan y))) w f) in
          let v = subst (λ (y : Float). Is y s ((8388608 + bits % 8388608) * 2 ^ k)) (sym w) a in
          rw (← q, full_is bits, less k)
          record { sign = v.0; value = v.1; small = omega arith; top = omega arith; full = λ g. omega arith }
