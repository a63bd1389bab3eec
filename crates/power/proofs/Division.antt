-- Between two entries of a table of any power of two of steps, one division finds the greatest F
-- with I(F) ≤ t: where p h ≤ t < p (h + 1) its low bits are r = floor (((t - p
-- h + 1) * 2 ^ w - 1) / (p (h + 1) - p h)), the greatest whole number with (p (h + 1) - p
-- h) * r < (t - p h + 1) * 2 ^ w. Assumes nothing.
use mathlib.Core.Path.{◌≡◌, sym, ap, ◌∙◌, subst}
use mathlib.Core.Logic.{inl, inr}
use Prim.Native.Nat.{ℕ, suc, ◌+◌, ◌-◌, ◌*◌, ◌/◌, ◌%◌, ◌^◌, ◌≤◌, ◌<◌}
use native.Mathlib.Nat.{le_trans, le_of_eq, le_of_lt, lt_of_lt_of_le, not-le_of_lt, le_of_suc-le-suc, eq-or-lt_of_le, mul_comm, mul-le-mul_right, mul-div-le, div-lt_iff_lt-mul, le-div_iff_mul-le}
use native.Mathlib.Omega.{arith}
use lib.Arith.{digits_lt}
use lib.Pow.{pow_pos, pow-add, split, high, low, shr_mono}
use Rattle.lists.specs.Interpolation.{interp, interp-is, here_or_on}
use Rattle.power.specs.Rules.{Roots}
use Rattle.power.specs.Log.{greatest}
use Rattle.power.proofs.Interpolated.{p-mono, step-lt, interp-ge}
use Rattle.power.proofs.Greatest.{greatest-unique}

module _ {k w : ℕ} {p : ℕ → ℕ} (R : Roots k w p) (t h : ℕ) (H : h < 2 ^ k) (A : p h ≤ t) (B : t < p (h + 1)) where
  abbrev D : ℕ
  D = p (h + 1) - p h

  -- (t - p h + 1) * 2 ^ w
  abbrev Z : ℕ
  Z = (t - p h + 1) * 2 ^ w

  abbrev r : ℕ
  r = (Z - 1) / D

  abbrev F : ℕ
  F = h * 2 ^ w + r

  D-pos : 0 < D
  D-pos = omega arith

  Z-pos : 0 < Z
  Z-pos = let u = mul-le-mul_right (2 ^ w) (one-le (t - p h)) in let v = pow_pos w in omega arith
    where
      one-le : (x : ℕ) → 1 ≤ x + 1
      one-le x = omega arith

  r-lt : r < 2 ^ w
  r-lt = (div-lt_iff_lt-mul D-pos).1 (lt_of_lt_of_le (less Z Z-pos) (le_trans (mul-le-mul_right (2 ^ w) up) (le_of_eq (mul_comm D (2 ^ w)))))
    where
      less : (z : ℕ) → 0 < z → z - 1 < z
      less z l = omega arith

      up : t - p h + 1 ≤ D
      up = omega arith

  r-most : D * r < Z
  r-most = let u = mul-div-le (Z - 1) D in let z = Z-pos in omega arith

  r-more : (s : ℕ) → r < s → Z ≤ D * s
  r-more s l = le_trans (below Z (s * D) Z-pos ((div-lt_iff_lt-mul {k = D} {x = Z - 1} {y = s} D-pos).0 l)) (le_of_eq (mul_comm s D))
    where
      below : (z y : ℕ) → 0 < z → z - 1 < y → z ≤ y
      below z y a b = omega arith

  pub F-lt : h * 2 ^ w + ((t - p h + 1) * 2 ^ w - 1) / (p (h + 1) - p h) < 2 ^ 24
  F-lt = lt_of_lt_of_le (digits_lt H r-lt) (le_of_eq (sym (pow-add 2 k w) ∙ ap (λ (x : ℕ). 2 ^ x) R.bits))

  F-fits : interp w p F ≤ t
  F-fits = rw (interp-is w p F, high h w r-lt, low h w r-lt) (let u = (div-lt_iff_lt-mul {k = 2 ^ w} {x = D * r} {y = t - p h + 1} (pow_pos w)).1 r-most in omega arith)

  past : (G : ℕ) → F < G → G < 2 ^ 24 → t < interp w p G
  past G l g =
      elim (eq-or-lt_of_le (subst (λ (x : ℕ). x ≤ G / 2 ^ w) (high h w r-lt) (shr_mono w (le_of_lt l)))) [
        | inl e ↦ rw (interp-is w p G, ← e) (let u = (le-div_iff_mul-le {k = 2 ^ w} {x = t - p h + 1} {y = D * (G % 2 ^ w)} (pow_pos w)).1 (r-more (G % 2 ^ w) (after e)) in omega arith)
        | inr m ↦ lt_of_lt_of_le B (le_trans (p-mono R (h + 1) (G / 2 ^ w) (omega arith) (le_of_lt (step-lt R G g))) (interp-ge R G))
      ]
    where
      after : h ≡ G / 2 ^ w → r < G % 2 ^ w
      after e = let a = split G w in let b : h * 2 ^ w ≡ G / 2 ^ w * 2 ^ w = ap (λ (x : ℕ). x * 2 ^ w) e in omega arith

  pub found-by-division : h * 2 ^ w + ((t - p h + 1) * 2 ^ w - 1) / (p (h + 1) - p h) ≡ greatest (interp w p) t (2 ^ 24)
  found-by-division =
      greatest-unique (interp w p) t (2 ^ 24) F
      record {
        under = F-lt;
        fits = F-fits;
        most = λ G g v. elim (here_or_on G (suc F)) [ inl l ↦ le_of_suc-le-suc l | inr l ↦ absurd (not-le_of_lt (past G l g) v) ];
      }
