-- I(F) never falls, and lies from 2 ^ 30 up and below 2 ^ 31, for any power of two of steps: within
-- a step it is a line that rises, and at its end no higher than the next entry.
-- Assumes nothing.
use mathlib.Core.Path.{sym, subst}
use mathlib.Core.Logic.{inl, inr}
use Prim.Native.Nat.{ℕ, ◌+◌, ◌-◌, ◌*◌, ◌/◌, ◌%◌, ◌^◌, ◌≤◌, ◌<◌}
use native.Mathlib.Nat.{le_trans, lt_of_lt_of_le, lt_of_le_of_lt, le_of_lt, eq-or-lt_of_le, eq-zero-or-pos, mul-le-mul_left, mod-lt, add-zero, zero-mul, mul-zero, zero-div, zero-mod}
use native.Mathlib.Omega.{arith}
use lib.Pow.{pow_pos, shr_lt, shr_mono}
use Rattle.lists.specs.Interpolation.{interp, interp-is, part-le, part-lt, between, between-lt, low-le}
use Rattle.power.specs.Rules.{Roots}
use Rattle.power.proofs.Entries.{entries-never-fall, entry-low, entry-high, entry_top, entry_first}

module _ {k w : ℕ} {p : ℕ → ℕ} (R : Roots k w p) where
  pub p-mono : (i j : ℕ) → i ≤ j → j ≤ 2 ^ k → p i ≤ p j
  p-mono = entries-never-fall (2 ^ k) p R.root

  pub p-top : (j : ℕ) → j ≤ 2 ^ k → p j ≤ 2 ^ 31
  p-top j l = entry_top (2 ^ k) p R.root j (pow_pos k) l

  pub step-lt : (F : ℕ) → F < 2 ^ 24 → F / 2 ^ w < 2 ^ k
  step-lt F h = shr_lt k w (subst (λ (x : ℕ). F < 2 ^ x) (sym R.bits) h)

  next : (F : ℕ) → F < 2 ^ 24 → F / 2 ^ w + 1 ≤ 2 ^ k
  next F h = let a = step-lt F h in omega arith

  pub step-up : (F : ℕ) → F < 2 ^ 24 → p (F / 2 ^ w) ≤ p (F / 2 ^ w + 1)
  step-up F h = p-mono (F / 2 ^ w) (F / 2 ^ w + 1) (omega arith) (next F h)

  pub step-top : (F : ℕ) → F < 2 ^ 24 → p (F / 2 ^ w + 1) ≤ 2 ^ 31
  step-top F h = p-top (F / 2 ^ w + 1) (next F h)

  pub interp-ge : (F : ℕ) → p (F / 2 ^ w) ≤ interp w p F
  interp-ge F = rw interp-is (omega arith)

  interp-le : (F : ℕ) → F < 2 ^ 24 → interp w p F ≤ p (F / 2 ^ w + 1)
  interp-le F h =
      rw interp-is
      (between (p (F / 2 ^ w)) (p (F / 2 ^ w + 1)) _ (step-up F h)
      (part-le (p (F / 2 ^ w + 1) - p (F / 2 ^ w)) (F % 2 ^ w) w (le_of_lt (mod-lt F (pow_pos w)))))

  pub interp-first : interp w p 0 ≤ 2 ^ 30
  interp-first = rw (interp-is w p 0, zero-div (2 ^ w), zero-mod (2 ^ w), mul-zero, zero-div (2 ^ w), add-zero) (entry_first (2 ^ k) p R.root (pow_pos k))

  pub interp-low : (F : ℕ) → F < 2 ^ 24 → 2 ^ 30 ≤ interp w p F
  interp-low F h = le_trans (entry-low (2 ^ k) p R.root (F / 2 ^ w) (le_of_lt (step-lt F h))) (interp-ge F)

  pub interp-high : (F : ℕ) → F < 2 ^ 24 → interp w p F < 2 ^ 31
  interp-high F h =
      let a = p (F / 2 ^ w) in
      let b = p (F / 2 ^ w + 1) in
      rw interp-is
      (elim (eq-zero-or-pos (b - a)) [
        | inl e ↦ rw (e, zero-mul, zero-div, add-zero) (entry-high (2 ^ k) p R.root (F / 2 ^ w) (step-lt F h))
        | inr g ↦ lt_of_lt_of_le (between-lt a b _ (part-lt (b - a) (F % 2 ^ w) w g (mod-lt F (pow_pos w)))) (step-top F h)
      ])

  pub interp-mono : (F G : ℕ) → F ≤ G → G < 2 ^ 24 → interp w p F ≤ interp w p G
  interp-mono F G h l =
      elim (eq-or-lt_of_le (shr_mono w h)) [
        | inl e ↦ rw (interp-is w p F, interp-is w p G, e) (same_step (p (G / 2 ^ w)) (p (G / 2 ^ w + 1) - p (G / 2 ^ w)) (low-le F G w h e))
        | inr g ↦ le_trans (interp-le F (lt_of_le_of_lt h l)) (le_trans (p-mono (F / 2 ^ w + 1) (G / 2 ^ w) (omega arith) (le_of_lt (step-lt G l))) (interp-ge G))
      ]
    where
      same_step : (a D : ℕ) → F % 2 ^ w ≤ G % 2 ^ w → a + D * (F % 2 ^ w) / 2 ^ w ≤ a + D * (G % 2 ^ w) / 2 ^ w
      same_step a D m = let t = shr_mono w (mul-le-mul_left D m) in omega arith
