-- The wave at a place of the turn, as the code makes it, and its value: floor(v / 64) / 2 ^ 24,
-- exactly, since that is a whole number up to 2 ^ 24 over 2 ^ 24. Assumes nothing.
use mathlib.Core.Path.{◌≡◌, refl, sym, ap, ◌∙◌, subst}
use mathlib.Core.Logic.{inl, inr}
use mathlib.Core.Bool.{Bool, true, false, cond, ◌&&◌}
use Prim.Native.Nat.{ℕ, ◌+◌, ◌-◌, ◌/◌, ◌%◌, ◌^◌, ◌≤◌, ◌<◌}
use native.Mathlib.Nat.{eq-or-lt_of_le, lt_of_lt_of_le, le_trans, le_of_lt, mod-lt, mul_assoc}
use native.Mathlib.Omega.{arith}
use lib.Dec.{leb, ltb, eqb, lit<, lit≤}
use lib.Bits.{bit_and, and_mask}
use lib.Pow.{pow_pos, shl_lt}
use lib.Ieee.{Float, binary32, round}
use lib.Ieee.Exact.{HasValue, round_exact}
use borrow.Author.Tests.{lt-leb, eq-eqb, ne_eqb}
use Rattle.lists.specs.Interpolation.{interp, interp-is, part-le, between, here_or_on}
use Rattle.sine.specs.Table.{sine_table, R}
use Rattle.sine.specs.Sine.{q, p, v, turned, wave}
use Rattle.sine.proofs.Entries.{R-rises}

-- ---- the quarter
low_bit : (U : ℕ) → bit_and (q U) 1 ≡ q U % 2
low_bit U = and_mask (q U) 1

pub turned-odd : (U : ℕ) → bit_and (q U) 1 ≡ 1 → 4194304 - bit_and U 4194303 ≡ turned U
unfolding turned
turned-odd U h = rw (and_mask U 22, eq-eqb (q U % 2) 1 (sym (low_bit U) ∙ h))

pub turned-even : (U : ℕ) → (bit_and (q U) 1 ≡ 1 → ⊥) → bit_and U 4194303 ≡ turned U
unfolding turned
turned-even U h = rw (and_mask U 22, ne_eqb (q U % 2) 1 (λ e. h (low_bit U ∙ e)))

pub turned_le : (U : ℕ) → turned U ≤ 4194304
unfolding turned
turned_le U = go (eqb (q U % 2) 1)
  where
    go : (b : Bool) → cond b (4194304 - p U) (p U) ≤ 4194304
    go true = omega arith
    go false = omega arith

-- ---- between the entries
last_entry : interp 14 R 4194304 ≡ 1073741824
unfolding interp sine_table
last_entry = refl

pub at-end : (n : ℕ) → n ≤ 4194304 → 255 < n / 16384 → 1073741824 ≡ interp 14 R n
at-end n h l = let e : n ≡ 4194304 = omega arith in rw e (sym last_entry)

pub interp-le : (n : ℕ) → n ≤ 4194304 → interp 14 R n ≤ 1073741824
interp-le n h =
    elim (here_or_on (n / 16384) 256) [
      | inl l ↦
          let step = R (n / 16384 + 1) - R (n / 16384) in
          let up = between (R (n / 16384)) (R (n / 16384 + 1)) _ (R-rises (n / 16384) l).0 (part-le step (n % 16384) 14 (le_of_lt (mod-lt n (pow_pos 14)))) in
          rw interp-is (le_trans up (R-rises (n / 16384) l).1)
      | inr l ↦ rw (← at-end n h l) (omega arith)
    ]

-- ---- the wave, w being what is left of v
module _ (U w : ℕ) (e : w ≡ v U / 64) where
  pub wave-is : wave U ≡ round binary32 (leb 2 (q U) && ltb 0 w) w 16777216
  unfolding wave
  wave-is = rw e

  pub wave-small : w ≤ 16777216
  wave-small = let l = interp-le (turned U) (turned_le U) in omega arith

  pub wave-up : q U < 2 → round binary32 false w 16777216 ≡ wave U
  wave-up h = sym (wave-is ∙ rw (lt-leb 2 (q U) h))

  pub wave-zero : w ≡ 0 → round binary32 false w 16777216 ≡ wave U
  wave-zero z = sym (wave-is ∙ ap (λ (b : Bool). round binary32 b w 16777216) (rw z (never (leb 2 (q U)))))
    where
      never : (b : Bool) → (b && false) ≡ false
      never true = refl
      never false = refl

-- ---- its value
exact : (n : ℕ) (s : Bool) → n ≤ 16777216 → HasValue (round binary32 s n 16777216) s n 16777216
exact n s h =
    elim (eq-or-lt_of_le h) [
      | inl e ↦ subst (λ (k : ℕ). HasValue (round binary32 s k 16777216) s k 16777216) (sym e) (round_exact binary32 s 16777216 16777216 1 149 (lit< tt) (lit< tt) (lit< tt) refl)
      | inr l ↦ round_exact binary32 s n 16777216 n 125 (lit< tt) l (lt_of_lt_of_le (shl_lt {a = n} 24 125 l) (lit≤ tt)) (sym (mul_assoc n (2 ^ 125) 16777216))
    ]

pub wave-value : (U : ℕ) → HasValue (wave U) (leb 2 (q U) && ltb 0 (v U / 64)) (v U / 64) (2 ^ 24)
wave-value U =
    let w = v U / 64 in
    let s = leb 2 (q U) && ltb 0 w in
    subst (λ (x : Float). HasValue x s w 16777216) (sym (wave-is U w refl)) (exact w s (wave-small U w refl))
