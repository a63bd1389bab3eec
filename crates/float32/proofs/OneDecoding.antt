-- The parts of a float are determined: two decodings of one float are the same, since with 24
-- digits a larger exponent would need a leading digit too many. Assumes nothing.
use Rattle.std.proofs.Common.{◌≡◌, ℕ, ◌-◌, ◌*◌, ◌^◌, ◌<◌, ◌≤◌, Bool, sym, ap, ◌∙◌, inl, inr, mul_assoc, mul-le-mul, arith, pow_pos, pow_mono, pow-add}
use native.Mathlib.Nat.{eq_of_mul-eq-mul_right}
use lib.Ieee.{Float}
use lib.Ieee.Digits.{back}
use Rattle.lists.specs.Interpolation.{here_or_on}
use Rattle.float32.specs.Value.{below, Decoded}
use Rattle.float32.proofs.Floor.{below-pos}

-- m * 2 ^ e and n * 2 ^ d are equal, and n has its leading digit
module _ (m e n d : ℕ) (v : m * 2 ^ e ≡ n * 2 ^ d) (small : m < 2 ^ 24) (full : 2 ^ 23 ≤ n) where
  no-larger : e < d → ⊥
  no-larger h =
      let l : e ≤ d = omega arith in
      let w : n * 2 ^ d ≡ n * 2 ^ (d - e) * 2 ^ e = ap (λ (k : ℕ). n * 2 ^ k) (sym (back d e l)) ∙ ap (λ (k : ℕ). n * k) (pow-add 2 (d - e) e) ∙ sym (mul_assoc n (2 ^ (d - e)) (2 ^ e)) in
      let u : m ≡ n * 2 ^ (d - e) = eq_of_mul-eq-mul_right (2 ^ e) (pow_pos e) m (n * 2 ^ (d - e)) (v ∙ w) in
      let p : 2 ≤ 2 ^ (d - e) = pow_mono {i = 1} {j = d - e} (omega arith) in
      let q : 8388608 * 2 ≤ n * 2 ^ (d - e) = mul-le-mul full p in
      omega arith

module _ (x : Float) (s t : Bool) (m e n d : ℕ) (D : Decoded x s m e) (E : Decoded x t n d) where
  pub one-sign : s ≡ t
  one-sign = sym D.sign ∙ E.sign

  same-value : m * 2 ^ e ≡ n * 2 ^ d
  same-value = eq_of_mul-eq-mul_right (below x) (below-pos x) (m * 2 ^ e) (n * 2 ^ d) (sym D.value ∙ E.value)

  pub one-exponent : e ≡ d
  one-exponent =
      elim (here_or_on e d) [
        | inl h ↦ absurd (no-larger m e n d same-value D.small (E.full (omega arith)) h)
        | inr h ↦
            elim (here_or_on d e) [
              | inl k ↦ absurd (no-larger n d m e (sym same-value) E.small (D.full (omega arith)) k)
              | inr k ↦ omega arith
            ]
      ]

  pub one-mantissa : m ≡ n
  one-mantissa = eq_of_mul-eq-mul_right (2 ^ e) (pow_pos e) m n (same-value ∙ ap (λ (k : ℕ). n * 2 ^ k) (sym one-exponent))
