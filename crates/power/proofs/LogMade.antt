-- L2 as `log2` makes it: +0 where v is not positive and normal, otherwise, from the parts of v, the
-- sum of F / 2 ^ 24 and e, both exact, rounded once.
-- Assumes nothing.
use mathlib.Core.Path.{◌≡◌, refl, sym, ap, ◌∙◌, subst}
use mathlib.Core.Bool.{Bool, true, false, not, cond, ◌&&◌, true≢false}
use Prim.Native.Nat.{ℕ, suc, ◌+◌, ◌-◌, ◌*◌, ◌^◌, ◌≤◌, ◌<◌}
use native.Mathlib.Nat.{add_comm, mul_comm, mul-one}
use native.Mathlib.Omega.{arith}
use lib.Dec.{T, ltb, ltb→lt, nltb→le, lit<}
use lib.IntN.{pos, negsuc, sub_ℕ}
use lib.Ieee.{Float, binary32, round, le, add, sub, of_int, of_bits}
use lib.Ieee.Exact.{HasValue}
use lib.Ieee.Fits.{and_i}
use Rattle.float32.specs.Value.{Decoded}
use Rattle.float32.proofs.Sums.{add_at, sub_at, whole-value, fraction-value}
use Rattle.float_laws.specs.Round.{round-neg}
use Rattle.power.specs.Table.{I}
use Rattle.power.specs.Power.{largest}
use Rattle.power.specs.Log.{greatest, least_normal, positive_normal, L2}
use Rattle.power.proofs.Normal.{normal-parts}
use Rattle.power.proofs.Logs.{L2-elsewhere, L2-F-lt, L2-from-one, L2-below-one}

zero : (v : Float) → positive_normal v ≡ false → of_bits binary32 0 ≡ L2 v
unfolding of_bits
zero v e = sym (L2-elsewhere v e)

-- ---- v is below the least normal number, or a NaN, or above the largest
least-is : of_bits binary32 8388608 ≡ least_normal
unfolding of_bits
least-is = refl

most-is : of_bits binary32 2139095039 ≡ largest
unfolding of_bits
most-is = refl

not-true : (b : Bool) → not b ≡ true → b ≡ false
not-true true e = absurd (true≢false (sym e))
not-true false e = refl

not-false : (b : Bool) → not b ≡ false → b ≡ true
not-false true e = refl
not-false false e = absurd (true≢false e)

both : (a b : Bool) → b ≡ false → (a && b) ≡ false
both true b e = e
both false b e = refl

pub too-low : (v : Float) → not (le (of_bits binary32 8388608) v) ≡ true → positive_normal v ≡ false
too-low v e = rw (sym least-is, not-true (le (of_bits binary32 8388608) v) e)

pub too-high : (v : Float) → not (le v (of_bits binary32 2139095039)) ≡ true → positive_normal v ≡ false
too-high v e = both (le least_normal v) (le v largest) (rw most-is at (not-true (le v (of_bits binary32 2139095039)) e))

pub log-low : (v : Float) → not (le (of_bits binary32 8388608) v) ≡ true → of_bits binary32 0 ≡ L2 v
log-low v e = zero v (too-low v e)

pub log-high : (v : Float) → not (le v (of_bits binary32 2139095039)) ≡ true → of_bits binary32 0 ≡ L2 v
log-high v e = zero v (too-high v e)

pub normal-tests : (v : Float) → not (le (of_bits binary32 8388608) v) ≡ false → not (le v (of_bits binary32 2139095039)) ≡ false → T (positive_normal v)
normal-tests v d e =
    and_i (le least_normal v) (le v largest)
    (subst T (sym (rw least-is at (not-false (le (of_bits binary32 8388608) v) d))) tt)
    (subst T (sym (rw most-is at (not-false (le v (of_bits binary32 2139095039)) e))) tt)

-- v is positive and normal with the parts m and k, and F is what `find` found
pub record Found (v : Float) (m k F : ℕ) : Type 0 where
  pub parts : Decoded v false m k
  pub normal : 2 ^ 23 ≤ m
  pub finite : k ≤ 253
  pub greatest-F : F ≡ greatest I (m * 128) (2 ^ 24)

module _ {v : Float} {m k F : ℕ} (c : Found v m k F) where
  is : HasValue v false (m * 2 ^ k) (2 ^ 149)
  is = normal-parts v m k c.parts c.normal c.finite

  F-is : F ≡ greatest I (128 * m) (2 ^ 24)
  F-is = c.greatest-F ∙ ap (λ (z : ℕ). greatest I z (2 ^ 24)) (mul_comm m 128)

  pub F-lt : F < 2 ^ 24
  F-lt = rw F-is (L2-F-lt v m k c.normal c.parts.small c.finite is)

  -- e is below 0: the sum with -(126 - k) is the difference
  log-below : k < 126 → sub binary32 (round binary32 false F (2 ^ 24)) (of_int binary32 (pos (126 - k))) ≡ L2 v
  log-below g =
      let b = F-lt in
      sub_at binary32 (round binary32 false F (2 ^ 24)) (of_int binary32 (pos (126 - k))) F (2 ^ 24) (126 - k) 1 (lit< tt) (lit< tt) (fraction-value F b) (whole-value (126 - k) (omega arith)) (omega arith)
      ∙ ap (λ (z : ℕ). round binary32 true ((126 - k) * 2 ^ 24 - z) (2 ^ 24)) (mul-one F ∙ F-is) ∙ sym (L2-below-one v m k c.normal c.parts.small c.finite is g)

  log-above : 126 ≤ k → add binary32 (round binary32 false F (2 ^ 24)) (of_int binary32 (pos (k - 126))) ≡ L2 v
  log-above g =
      let b = F-lt in
      let h = c.finite in
      add_at binary32 (round binary32 false F (2 ^ 24)) (of_int binary32 (pos (k - 126))) F (2 ^ 24) (k - 126) 1 (lit< tt) (lit< tt) (fraction-value F b) (whole-value (k - 126) (omega arith))
      ∙ ap (λ (z : ℕ). round binary32 false z (2 ^ 24)) (ap (λ (z : ℕ). z + (k - 126) * 2 ^ 24) (mul-one F ∙ F-is) ∙ add_comm _ _)
      ∙ sym (L2-from-one v m k c.normal c.parts.small c.finite is g)

  pub log-sum : add binary32 (round binary32 false F (2 ^ 24)) (of_int binary32 (sub_ℕ (suc k) 127)) ≡ L2 v
  unfolding of_int sub
  log-sum = go (ltb (suc k) 127) (ltb→lt (suc k) 127) (nltb→le (suc k) 127)
    where
      go : (b : Bool) → (T b → suc k < 127) → (T (not b) → 127 ≤ suc k)
          → add binary32 (round binary32 false F (2 ^ 24)) (of_int binary32 (cond b (negsuc (127 - suc (suc k))) (pos (suc k - 127)))) ≡ L2 v
      go true y n =
          let h = y tt in
          let e : suc (127 - suc (suc k)) ≡ 126 - k = omega arith in
          ap (λ (z : Float). add binary32 (round binary32 false F (2 ^ 24)) z) (ap (λ (z : ℕ). round binary32 true z 1) e ∙ round-neg binary32 (126 - k) 1) ∙ log-below (omega arith)
      go false y n =
          let h = n tt in
          let e : suc k - 127 ≡ k - 126 = omega arith in
          ap (λ (z : ℕ). add binary32 (round binary32 false F (2 ^ 24)) (round binary32 false z 1)) e ∙ log-above (omega arith)
