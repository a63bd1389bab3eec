-- log2 never falls on positive normal numbers, for any power of two of steps up to 2 ^ 24: as v
-- rises so does k = e + 126, or with the same k M, and then F, the greatest with I(F) ≤ 128 * M; F
-- is below 2 ^ 24, so that k * 2 ^ 24 + F rises too; and one rounding keeps the order. Assumes
-- nothing.
use mathlib.Core.Path.{◌≡◌, sym, subst}
use mathlib.Core.Logic.{inl, inr}
use mathlib.Core.Bool.{Bool, true, false, not, cond}
use Prim.Native.Nat.{ℕ, ◌+◌, ◌-◌, ◌*◌, ◌/◌, ◌^◌, ◌≤◌, ◌<◌}
use native.Mathlib.Nat.{le_trans, le_of_eq, lt_of_le_of_lt, lt_of_not-le, not-le_of_lt, eq-or-lt_of_le, mul-le-mul_left, mul-le-mul_right, le-div_iff_mul-le}
use native.Mathlib.Omega.{arith}
use lib.Dec.{T, ltb, ltb→lt, nltb→le}
use lib.Pow.{pow_pos, pow-add, pow_mono, shr_mono}
use lib.Ieee.{Float, Format, binary32, le, round, size}
use lib.Ieee.Bits.{is_true}
use lib.Ieee.Digits.{size-lt, size-le, size_reaches}
use lib.Ieee.Scale.{overflow}
use Rattle.float_laws.specs.Units.{keyed, key→le}
use Rattle.float_laws.specs.Round.{rnd, rnd-mono, round_number, key-round}
use Rattle.lists.specs.Interpolation.{interp}
use Rattle.power.specs.Rules.{Roots}
use Rattle.power.proofs.Rules.{P-rule}
use Rattle.power.specs.Log.{greatest, positive_normal, units_of, rounded, log_at, log_of, L2}
use Rattle.power.proofs.Interpolated.{interp-first}
use Rattle.power.proofs.Greatest.{greatest-mono}
use Rattle.power.proofs.Logs.{F-greatest}
use Rattle.power.proofs.Normal.{units-low, units_mono}

-- ---- one rounding keeps the order, about any C: of (Y - C) / d, for either sign
round-order : (f : Format) (d C Y Z : ℕ) → 0 < d → Y ≤ Z
    → T (le (cond (ltb Y C) (round f true (C - Y) d) (round f false (Y - C) d)) (cond (ltb Z C) (round f true (C - Z) d) (round f false (Z - C) d)))
round-order f d C Y Z z h = go (ltb Y C) (ltb Z C) (nltb→le Y C) (ltb→lt Z C)
  where
    by-keys : (s : Bool) (a : ℕ) (t : Bool) (b : ℕ) → keyed (overflow f) s (rnd f a d) ≤ keyed (overflow f) t (rnd f b d) → T (le (round f s a d) (round f t b d))
    by-keys s a t b l = key→le f (round f s a d) (round f t b d) (round_number f s a d) (round_number f t b d) (rw (key-round f s a d, key-round f t b d) l)

    mono : (a b : ℕ) → a ≤ b → rnd f a d ≤ rnd f b d
    mono a b l = rnd-mono f a d b d z z (mul-le-mul_right d l)

    go : (p q : Bool) → (T (not p) → C ≤ Y) → (T q → Z < C) → T (le (cond p (round f true (C - Y) d) (round f false (Y - C) d)) (cond q (round f true (C - Z) d) (round f false (Z - C) d)))
    go true true a b = by-keys true (C - Y) true (C - Z) (omega (arith, mono (C - Z) (C - Y) (omega arith)))
    go true false a b = by-keys true (C - Y) false (Z - C) (omega arith)
    go false true a b = absurd (omega (arith, a tt, b tt))
    go false false a b = by-keys false (Y - C) false (Z - C) (omega (arith, mono (Y - C) (Z - C) (omega arith)))

pub rounded-mono : (Y Z : ℕ) → Y ≤ Z → T (le (rounded Y) (rounded Z))
unfolding rounded
rounded-mono Y Z h = round-order binary32 (2 ^ 24) (126 * 2 ^ 24) Y Z (pow_pos 24) h

-- ---- M, the 24 leading digits of n
module _ (n : ℕ) (h : 2 ^ 23 ≤ n) where
  pub size-high : 24 ≤ size n
  size-high = lt_of_not-le (λ (g : size n ≤ 23). not-le_of_lt (size-lt n) (le_trans (pow_mono g) h))

  pub M-low : 2 ^ 23 ≤ n / 2 ^ (size n - 24)
  M-low =
      (le-div_iff_mul-le (pow_pos (size n - 24))).1
      (le_trans (le_of_eq (sym (pow-add 2 23 (size n - 24)))) (size_reaches n (23 + (size n - 24)) (let u = size-high in omega arith)))

-- ---- the logarithm
module _ {k w : ℕ} {p : ℕ → ℕ} (R : Roots k w p) where
  abbrev F : ℕ → ℕ
  F M = greatest (interp w p) (128 * M) (2 ^ 24)

  F-mono : (M N : ℕ) → 2 ^ 23 ≤ M → M ≤ N → F M ≤ F N
  F-mono M N l h = greatest-mono (interp w p) (128 * M) (128 * N) (2 ^ 24) 0 (pow_pos 24) (le_trans (interp-first R) (omega arith)) (mul-le-mul_left 128 h)

  pub F-lt : (M : ℕ) → 2 ^ 23 ≤ M → F M < 2 ^ 24
  F-lt M l = (F-greatest R (128 * M) (omega arith)).under

  digits-mono : (j i M N : ℕ) → j ≤ i → 2 ^ 23 ≤ M → (j ≡ i → M ≤ N) → j * 2 ^ 24 + F M ≤ i * 2 ^ 24 + F N
  digits-mono j i M N h l m =
      elim (eq-or-lt_of_le h) [
        | inl e ↦ let u = F-mono M N l (m e) in omega arith
        | inr g ↦ let u = F-lt M l in omega arith
      ]

  log_at-mono : (n m : ℕ) → 2 ^ 23 ≤ n → n ≤ m → T (le (log_at w p n) (log_at w p m))
  unfolding log_at
  log_at-mono n m l h =
      rounded-mono _ _
      (digits-mono (size n - 24) (size m - 24) (n / 2 ^ (size n - 24)) (m / 2 ^ (size m - 24)) (let u = size-le n (size m) (lt_of_le_of_lt h (size-lt m)) in omega arith)
      (M-low n l) (λ (e : size n - 24 ≡ size m - 24). subst (λ (z : ℕ). n / 2 ^ (size n - 24) ≤ m / 2 ^ z) e (shr_mono (size n - 24) h)))

  pub logarithms-never-fall : (v v' : Float) → T (positive_normal v) → T (positive_normal v') → T (le v v') → T (le (log_of w p v) (log_of w p v'))
  unfolding log_of
  logarithms-never-fall v v' t t' h = rw (is_true (positive_normal v) t, is_true (positive_normal v') t') (log_at-mono (units_of v) (units_of v') (units-low v t) (units_mono v v' t t' h))

-- at this table
pub L2-mono : (v v' : Float) → T (positive_normal v) → T (positive_normal v') → T (le v v') → T (le (L2 v) (L2 v'))
unfolding L2
L2-mono = logarithms-never-fall P-rule
