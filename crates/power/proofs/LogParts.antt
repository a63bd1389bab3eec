-- The parts of a positive normal v as `log2` takes them from its bit pattern: the sign bit is clear
-- and the exponent's field from 1 to 254, since any other pattern is of a number that is not
-- positive and normal. And the exponent, a signed number. Assumes nothing.
use mathlib.Core.Path.{◌≡◌, refl, sym, ap, ◌∙◌, subst}
use mathlib.Core.Logic.{inl, inr}
use mathlib.Core.Bool.{Bool, true, false, not, cond}
use Prim.Native.Nat.{ℕ, suc, ◌+◌, ◌-◌, ◌*◌, ◌/◌, ◌%◌, ◌^◌, ◌≤◌, ◌<◌}
use native.Mathlib.Nat.{add_comm, mod-lt, mod-eq_of_lt}
use native.Mathlib.Omega.{arith}
use lib.Dec.{T, eqb, ltb, ltb→lt, nltb→le, lt→ltb, le→leb, lit<}
use lib.Bits.{bit_and, bit_or, and_mask, or_shifted_r}
use lib.IntN.{ℤ, pos, negsuc, sub_ℕ, ◌-ℤ◌}
use lib.Ieee.{Float, nan, inf, fin, binary32, to_bits, fits, is_nan, in_float}
use lib.Ieee.Bits.{to_bits-lt}
use lib.Ieee.Fits.{eq→eqb}
use borrow.Author.Tests.{lt-ltb}
use mir.Syntax.{w32}
use mir.Val.{SFits, to_z, of_z}
use mir.Facts.{to_z-of_z}
use Rattle.lists.specs.Interpolation.{here_or_on}
use Rattle.float32.specs.Value.{Decoded}
use Rattle.float32.proofs.Fields.{decoded-low, decoded-high}
use Rattle.power.specs.Log.{positive_normal}
use Rattle.power.specs.Stages.{digits_of}
use Rattle.power.proofs.Normal.{nan-not, negative-parts, subnormal-parts, infinite-parts}

clash : (v : Float) {A : Type 0} → T (positive_normal v) → positive_normal v ≡ false → A
clash v t e = absurd (subst T e t)

pub no_nan : (v : Float) → T (positive_normal v) → T (not (is_nan v))
unfolding is_nan
no_nan nan t = clash nan t nan-not
no_nan (inf s) t = tt
no_nan (fin s m e) t = tt

-- the digits of the bit pattern below the leading one, with that
leading-digit : (v : Float) → bit_or (bit_and (to_bits binary32 v) 8388607) 8388608 ≡ to_bits binary32 v % 2 ^ 23 + 2 ^ 23
leading-digit v =
    ap (λ (t : ℕ). bit_or t 8388608) (and_mask (to_bits binary32 v) 23) ∙ or_shifted_r 1 23 (to_bits binary32 v % 8388608) (mod-lt (to_bits binary32 v) (lit< tt))
    ∙ add_comm (1 * 2 ^ 23) (to_bits binary32 v % 8388608)

pub digits_in : (v : Float) → (2 ^ 30 ≤ digits_of v) × (digits_of v < 2 ^ 31)
digits_in v = let l : to_bits binary32 v % 2 ^ 23 < 2 ^ 23 = mod-lt (to_bits binary32 v) (lit< tt) in (omega arith, omega arith)

pub shifted-digits : (v : Float) → bit_or (bit_and (to_bits binary32 v) 8388607) 8388608 * 128 % 2 ^ 32 ≡ digits_of v
shifted-digits v = ap (λ (z : ℕ). z * 128 % 2 ^ 32) (leading-digit v) ∙ mod-eq_of_lt (let l = (digits_in v).1 in omega arith)

module _ (v : Float) (h : T (fits binary32 v)) (t : T (positive_normal v)) where
  abbrev bits : ℕ
  bits = to_bits binary32 v

  abbrev field : ℕ
  field = bits / 8388608

  abbrev pub mant : ℕ
  mant = bit_or (bit_and bits 8388607) 8388608

  f : T (not (is_nan v))
  f = no_nan v t

  pub digits-mant : digits_of v ≡ mant * 128
  digits-mant = ap (λ (z : ℕ). z * 128) (sym (leading-digit v))

  pub record Parts : Type 0 where
    pub parts : Decoded v false mant (field - 1)
    pub full : 2 ^ 23 ≤ mant
    pub low : 1 ≤ field
    pub high : field ≤ 254

  masked : bit_and field 255 ≡ field % 256
  masked = and_mask field 8

  low-digits : bit_and bits 8388607 < 2 ^ 23
  low-digits = rw (and_mask bits 23) (omega arith)

  not_low : (s : Bool) → Decoded v s (bit_and bits 8388607) 0 → ⊥
  not_low true d = clash v t (negative-parts v (bit_and bits 8388607) 0 d)
  not_low false d = clash v t (subnormal-parts v (bit_and bits 8388607) 0 d low-digits)

  field-pos : bit_and field 255 ≡ 0 → ⊥
  field-pos z = not_low (eqb (bits / 2147483648) 1) (decoded-low v h f z)

  positive : (s : Bool) (m k : ℕ) → Decoded v s m k → s ≡ false
  positive true m k d = clash v t (negative-parts v m k d)
  positive false m k d = refl

  not_infinite : (m k : ℕ) → Decoded v false m k → k ≤ 253
  not_infinite m k d = elim (here_or_on 253 k) [ inl l ↦ clash v t (infinite-parts v m k d (d.full (omega arith)) l) | inr l ↦ l ]

  small-field : eqb (bits / 2147483648) 1 ≡ false → bits < 2 ^ 32 → field < 256
  small-field e l = elim (here_or_on bits 2147483648) [ inl b ↦ omega arith | inr b ↦ absurd (subst T e (eq→eqb (one bits l b))) ]
    where
      one : (b : ℕ) → b < 2 ^ 32 → 2147483648 ≤ b → b / 2147483648 ≡ 1
      one b l m = omega arith

  pub fields : Parts
  fields =
      let d = decoded-high v h f field-pos in
      let s = positive (eqb (bits / 2147483648) 1) mant (bit_and field 255 - 1) d in
      let l = small-field s (to_bits-lt binary32 v h) in
      let e : bit_and field 255 ≡ field = masked ∙ within field l in
      let n : (field ≡ 0 → ⊥) = λ z. field-pos (e ∙ z) in
      let g : Decoded v false mant (field - 1) = subst (λ (k : ℕ). Decoded v false mant (k - 1)) e (subst (λ (b : Bool). Decoded v b mant (bit_and field 255 - 1)) s d) in
      let u = not_infinite mant (field - 1) g in
      let p : 1 ≤ field = omega arith in
      record { parts = g; full = leading; low = p; high = omega arith }
    where
      within : (n : ℕ) → n < 256 → n % 256 ≡ n
      within n l = omega arith

      leading : 2 ^ 23 ≤ mant
      leading = rw (ap (λ (t : ℕ). bit_or t 8388608) (and_mask bits 23) ∙ or_shifted_r 1 23 (bits % 8388608) (mod-lt bits (lit< tt))) (omega arith)

-- ---- the field less 127
signed : (n : ℕ) → n < 512 → to_z w32 n ≡ pos n
signed n l = rw (lt-ltb n 2147483648 (omega arith))

less-fits : (n : ℕ) → n < 512 → SFits w32 (sub_ℕ n 127)
less-fits n l = go (ltb n 127) (ltb→lt n 127) (nltb→le n 127)
  where
    go : (b : Bool) → (T b → n < 127) → (T (not b) → 127 ≤ n) → SFits w32 (cond b (negsuc (127 - suc n)) (pos (n - 127)))
    go true y z = record { sfits = omega arith }
    go false y z = record { sfits = omega arith }

pub exponent-fits : (n : ℕ) → n < 512 → SFits w32 (to_z w32 n -ℤ pos 127)
exponent-fits n l = rw (signed n l) (less-fits n l)

pub exponent-is : (n : ℕ) → n < 512 → to_z w32 (of_z w32 (to_z w32 n -ℤ pos 127)) ≡ sub_ℕ n 127
exponent-is n l = to_z-of_z (exponent-fits n l) ∙ ap (λ (z : ℤ). z -ℤ pos 127) (signed n l)

held : (n : ℕ) → n < 512 → T (in_float binary32 (sub_ℕ n 127))
unfolding in_float
held n l = go (ltb n 127)
  where
    go : (b : Bool) → T (in_float binary32 (cond b (negsuc (127 - suc n)) (pos (n - 127))))
    go true = lt→ltb (127 - suc n) 16777216 (omega arith)
    go false = le→leb (n - 127) 16777216 (omega arith)

pub exponent-held : (n : ℕ) → n < 512 → T (in_float binary32 (to_z w32 (of_z w32 (to_z w32 n -ℤ pos 127))))
exponent-held n l = subst (λ (z : ℤ). T (in_float binary32 z)) (sym (exponent-is n l)) (held n l)
