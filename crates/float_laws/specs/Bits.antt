-- The bit patterns of values that are not negative are in the values' order: from 0 up to the
-- infinity's pattern, a larger pattern is a larger value. Assumes nothing.
use Rattle.std.specs.Prelude.{◌≡◌, refl, Bool, true, not, cond, ℕ, zero, suc, ◌+◌, ◌-◌, ◌*◌, ◌/◌, ◌%◌, ◌^◌, ◌≤◌, ◌<◌, leb, ltb, eqb, Float}
use Rattle.std.proofs.Common.{sym, ◌∙◌, subst, inl, inr, le_refl, le_trans, le_of_eq, le_of_lt, lt_of_lt_of_le, lt_of_le_of_lt, eq-or-lt_of_le, mul-one, mul_comm, mul_assoc, mul-le-mul, mul-le-mul_right, mod-lt, div-add-mod', mod-eq_of_lt, mul-lt-mul_of_pos_right, arith, pow_pos, pow-add, pow_mono, eqb→eq, leb→le, ltb→lt}
use Rattle.std.proofs.Math.Path.{ap}
use Rattle.std.proofs.Math.Bool.{false}
use Rattle.std.proofs.Math.Nat.{eq_of_mul-eq-mul_right, pow-succ', not-le_of_lt}
use Rattle.std.proofs.Math.Pow.{shr_mono}
use Rattle.std.proofs.Math.Dec.{T, not_T}
use Rattle.std.specs.Float.{nan, inf, Format}
use Rattle.std.specs.Float.Ieee.{prec, emax, low, hid, ones, top, odd, fits, is_nan, of_bits, of_fields, le}
use Rattle.std.specs.Float.Ieee.Bits.{of_bits-fits, nan_bits_is, nan_bits_above, is_false}
use Rattle.std.specs.Float.Ieee.Exact.{odd_sign}
use Rattle.std.specs.Float.Ieee.Fits.{two}
use Rattle.std.specs.Float.Ieee.Scale.{overflow}
use Rattle.float_laws.specs.Units.{mag, sign, number, key, keyed, mag-inf, key→le}
use Rattle.float_laws.specs.Order.{fits-number}
use Rattle.float_laws.specs.Round.{mag-of-value, odd-kind}

-- what the fields stand for, in units: the exponent's field x, and the digits t
abbrev pub scaled : Format → ℕ → ℕ → ℕ
scaled f zero t = t
scaled f (suc x) t = (hid f + t) * 2 ^ x

mag-odd : (f : Format) (d : ℕ) (s : Bool) (q k : ℕ) → T (fits f (odd d s q k (low f))) → mag f (odd d s q k (low f)) ≡ q * 2 ^ k
mag-odd f d s q k h =
    eq_of_mul-eq-mul_right (2 ^ low f) (pow_pos (low f)) (mag f (odd d s q k (low f))) (q * 2 ^ k)
    (mag-of-value f (odd d s q k (low f)) s (q * 2 ^ k) (2 ^ low f) h (odd_sign d s q k (low f)))

top-exponent : (e p x : ℕ) → suc x ≡ 2 * e + 1 → 2 ≤ p → e + p - 2 + suc e ≡ p - 1 + x
top-exponent e p x h k = omega arith

mag-fields : (f : Format) (s : Bool) (x t : ℕ) → T (fits f (of_fields f s x t)) → T (not (is_nan (of_fields f s x t))) → mag f (of_fields f s x t) ≡ scaled f x t
unfolding of_fields is_nan
mag-fields f s zero t h n = mag-odd f (prec f) s t 0 h ∙ mul-one t
mag-fields f s (suc x) t h n = go (eqb (suc x) (ones f)) (eqb t 0) (eqb→eq (suc x) (ones f)) (eqb→eq t 0) h n
  where
    go : (b c : Bool) → (T b → suc x ≡ ones f) → (T c → t ≡ 0) → T (fits f (cond b (cond c (inf s) nan) (odd (prec f) s (hid f + t) x (low f))))
        → T (not (is_nan (cond b (cond c (inf s) nan) (odd (prec f) s (hid f + t) x (low f)))))
        → mag f (cond b (cond c (inf s) nan) (odd (prec f) s (hid f + t) x (low f))) ≡ (hid f + t) * 2 ^ x
    go true true e z h n =
        let w : hid f + t ≡ hid f = omega (arith, z tt) in
        mag-inf f s ∙ ap (λ (k : ℕ). 2 ^ k) (top-exponent (emax f) (prec f) x (e tt) (two f)) ∙ pow-add 2 (prec f - 1) x ∙ ap (λ (k : ℕ). k * 2 ^ x) (sym w)
    go true false e z h n = absurd n
    go false c e z h n = mag-odd f (prec f) s (hid f + t) x h

sign-fields : (f : Format) (s : Bool) (x t : ℕ) → T (not (is_nan (of_fields f s x t))) → sign (of_fields f s x t) ≡ s
unfolding of_fields is_nan odd
sign-fields f s zero zero n = refl
sign-fields f s zero (suc t) n = refl
sign-fields f s (suc x) t n = go (eqb (suc x) (ones f)) (eqb t 0) n
  where
    go : (b c : Bool) → T (not (is_nan (cond b (cond c (inf s) nan) (odd (prec f) s (hid f + t) x (low f)))))
        → sign (cond b (cond c (inf s) nan) (odd (prec f) s (hid f + t) x (low f))) ≡ s
    go true true n = refl
    go true false n = absurd n
    go false c n = (odd-kind (prec f) s (hid f + t) x (low f)).0

-- ---- the fields' numbers are in the patterns' order
scaled-mono : (f : Format) (x t y u : ℕ) → t < hid f → x < y → scaled f x t ≤ scaled f y u
scaled-mono f zero t (suc y) u h k = le_trans (le_of_lt h) (le_trans (le_of_eq (sym (mul-one (hid f)))) (mul-le-mul (omega arith) (pow_pos y)))
scaled-mono f (suc x) t zero u h k = absurd (omega arith)
scaled-mono f (suc x) t (suc y) u h k =
    let a : 2 ^ suc x ≤ 2 ^ y = pow_mono (omega arith) in
    let b : hid f * 2 ^ suc x ≤ (hid f + u) * 2 ^ y = mul-le-mul (omega arith) a in
    let c : (hid f + t) * 2 ^ x ≤ hid f * 2 * 2 ^ x = mul-le-mul_right (2 ^ x) (omega arith) in
    let e : hid f * 2 * 2 ^ x ≡ hid f * 2 ^ suc x = mul_assoc (hid f) 2 (2 ^ x) ∙ ap (λ (z : ℕ). hid f * z) (sym (pow-succ' 2 x)) in
    omega arith
scaled-mono f zero t zero u h k = absurd (omega arith)

same-mono : (f : Format) (x t u : ℕ) → t ≤ u → scaled f x t ≤ scaled f x u
same-mono f zero t u h = h
same-mono f (suc x) t u h = mul-le-mul_right (2 ^ x) (omega arith)

-- ---- patterns up to the infinity's
module _ (f : Format) (b : ℕ) (h : b ≤ ones f * hid f) where
  under_top : b < top f
  under_top = lt_of_le_of_lt h (lt_of_lt_of_le (omega (arith, hid-pos)) (le_of_eq (mul_comm (suc (ones f)) (hid f))))
    where
      hid-pos : ones f * hid f < suc (ones f) * hid f
      hid-pos = mul-lt-mul_of_pos_right (le_refl (suc (ones f))) (pow_pos (prec f - 1))

  fields : of_bits f b ≡ of_fields f false (b / hid f) (b % hid f)
  unfolding of_bits
  fields =
      ap (λ (s : Bool). of_fields f s (b % top f / hid f) (b % hid f))
      (is_false (leb (top f) b) (not_T (leb (top f) b) (λ (t : T (leb (top f) b)). not-le_of_lt under_top (leb→le (top f) b t))))
      ∙ ap (λ (z : ℕ). of_fields f false (z / hid f) (b % hid f)) (mod-eq_of_lt under_top)

  no_nan : T (not (is_nan (of_bits f b)))
  no_nan =
      subst (λ (t : Bool). T (not t)) (sym (nan_bits_above f b) ∙ nan_bits_is f b)
      (not_T (ltb (ones f * hid f) (b % top f)) (λ (t : T (ltb (ones f * hid f) (b % top f))). not-le_of_lt (subst (λ (z : ℕ). ones f * hid f < z) (mod-eq_of_lt under_top) (ltb→lt (ones f * hid f) (b % top f) t)) h))

  pub bits-number : T (number f (of_bits f b))
  bits-number = fits-number f (of_bits f b) (of_bits-fits f b) no_nan

  pub bits_key : key f (of_bits f b) ≡ overflow f + scaled f (b / hid f) (b % hid f)
  bits_key =
      let n = subst (λ (x : Float). T (not (is_nan x))) fields no_nan in
      let g = subst (λ (x : Float). T (fits f x)) fields (of_bits-fits f b) in
      ap (key f) fields
      ∙ ap (λ (s : Bool). keyed (overflow f) s (mag f (of_fields f false (b / hid f) (b % hid f)))) (sign-fields f false (b / hid f) (b % hid f) n)
      ∙ ap (λ (z : ℕ). overflow f + z) (mag-fields f false (b / hid f) (b % hid f) g n)

fields-mono : (f : Format) (b c : ℕ) → b ≤ c → scaled f (b / hid f) (b % hid f) ≤ scaled f (c / hid f) (c % hid f)
fields-mono f b c h =
    elim (eq-or-lt_of_le (shr_mono (prec f - 1) h)) [
      | inl e ↦
          let u = div-add-mod' b (hid f) in
          let v = div-add-mod' c (hid f) in
          let w : b / hid f * hid f ≡ c / hid f * hid f = ap (λ (z : ℕ). z * hid f) e in
          subst (λ (z : ℕ). scaled f z (b % hid f) ≤ scaled f (c / hid f) (c % hid f)) (sym e) (same-mono f (c / hid f) (b % hid f) (c % hid f) (omega arith))
      | inr l ↦ scaled-mono f (b / hid f) (b % hid f) (c / hid f) (c % hid f) (mod-lt b (pow_pos (prec f - 1))) l
    ]

pub bits_mono : (f : Format) (b c : ℕ) → b ≤ c → c ≤ ones f * hid f → T (le (of_bits f b) (of_bits f c))
bits_mono f b c h k =
    let j : b ≤ ones f * hid f = le_trans h k in
    key→le f (of_bits f b) (of_bits f c) (bits-number f b j) (bits-number f c k) (omega (arith, bits_key f b j, bits_key f c k, fields-mono f b c h))
