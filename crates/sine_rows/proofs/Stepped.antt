-- The value at a place by the step of R that it lies in: of an odd quarter the way back is one unit
-- short of the turned place, and the part of the step one unit more. Assumes nothing.
use mathlib.Core.Path.{◌≡◌, sym, ap, ◌∙◌, subst}
use mathlib.Core.Logic.{inl, inr}
use mathlib.Core.Bool.{Bool, true, false, cond}
use Prim.Native.Nat.{ℕ, ◌+◌, ◌-◌, ◌*◌, ◌/◌, ◌%◌, ◌^◌, ◌≤◌, ◌<◌}
use native.Mathlib.Nat.{le_trans, mod-lt, mul-le-mul, mul-div_cancel, mul-zero, add-zero}
use native.Mathlib.Omega.{arith}
use lib.Dec.{eqb}
use lib.Pow.{pow_pos}
use Rattle.lists.specs.Interpolation.{interp, interp-is, part-le, between, here_or_on}
use Rattle.sine.specs.Table.{R}
use Rattle.sine.specs.Sine.{q, p, v, turned}
use Rattle.sine.specs.Rows.{way, index_of, part_of, value_at}
use Rattle.sine.proofs.Entries.{R-rises}

-- a part of the way from an entry to the next
abbrev pub line : ℕ → ℕ → ℕ
line h r = R h + (R (h + 1) - R h) * r / 2 ^ 14

-- ---- its size, and that of what it is made of, a and b being the two entries as the code has them
module _ (h r a b : ℕ) (H : h < 256) (P : r ≤ 16384) (ha : a ≡ R h) (hb : b ≡ R (h + 1)) where
  pub up : a ≤ b
  up = rw (ha, hb) (R-rises h H).0

  pub product_small : (b - a) * r ≤ 1073741824 * 16384
  product_small = let u = subst (λ (z : ℕ). z ≤ 1073741824) (sym hb) (R-rises h H).1 in mul-le-mul {n₁ = b - a} {m₁ = r} {n₂ = 1073741824} {m₂ = 16384} (omega arith) P

  pub sum_is : a + (b - a) * r / 2 ^ 14 ≡ line h r
  sum_is = rw (ha, hb)

  pub sum-small : a + (b - a) * r / 2 ^ 14 ≤ 1073741824
  sum-small = rw (ha, hb) (le_trans (between (R h) (R (h + 1)) _ (R-rises h H).0 (part-le (R (h + 1) - R h) r 14 P)) (R-rises h H).1)

-- ---- the whole of a step ends at the next entry
step_end : (h : ℕ) → h < 256 → line h 16384 ≡ R (h + 1)
step_end h H =
    let u = (R-rises h H).0 in
    ap (λ (z : ℕ). R h + z) (mul-div_cancel (R (h + 1) - R h) (pow_pos 14)) ∙ omega arith

no_part : (h : ℕ) → line h 0 ≡ R h
no_part h = rw (mul-zero (R (h + 1) - R h)) (add-zero (R h))

one_more : (n : ℕ) → n < 4194304 → line (n / 16384) (n % 16384 + 1) ≡ interp 14 R (n + 1)
one_more n l =
    elim (here_or_on (n % 16384 + 1) 16384) [
      | inl s ↦
          let a : (n + 1) / 16384 ≡ n / 16384 = omega arith in
          let b : (n + 1) % 16384 ≡ n % 16384 + 1 = omega arith in
          sym (interp-is 14 R (n + 1) ∙ rw (a, b))
      | inr s ↦
          let m = mod-lt n (pow_pos 14) in
          let a : (n + 1) / 16384 ≡ n / 16384 + 1 = omega arith in
          let b : (n + 1) % 16384 ≡ 0 = omega arith in
          let c : n % 16384 + 1 ≡ 16384 = omega arith in
          ap (line (n / 16384)) c ∙ step_end (n / 16384) (omega arith) ∙ sym (interp-is 14 R (n + 1) ∙ rw (a, b) (no_part (n / 16384 + 1)))
    ]

-- ---- the step of a place
pub way-small : (U : ℕ) → way U < 4194304
way-small U = go (eqb (q U % 2) 1) (mod-lt U (pow_pos 22))
  where
    go : (b : Bool) → p U < 4194304 → cond b (4194303 - p U) (p U) < 4194304
    go true h = omega arith
    go false h = omega arith

pub index-small : (U : ℕ) → index_of U < 256
index-small U = let l = way-small U in omega arith

pub part_small : (U : ℕ) → part_of U ≤ 16384
part_small U =
    let a = mod-lt (way U) (pow_pos 14) in
    let b = mod-lt (q U) (pow_pos 1) in
    omega arith

line-is : (U : ℕ) → line (index_of U) (part_of U) ≡ v U
unfolding turned
line-is U =
    let b = mod-lt (q U) (pow_pos 1) in
    let l = mod-lt U (pow_pos 22) in
    elim (here_or_on (q U % 2) 1) [
      | inl h ↦
          let e : q U % 2 ≡ 0 = omega arith in
          rw e (ap (line (p U / 16384)) (add-zero (p U % 16384)) ∙ sym (interp-is 14 R (p U)))
      | inr h ↦
          let e : q U % 2 ≡ 1 = omega arith in
          let z : 4194303 - p U + 1 ≡ 4194304 - p U = omega arith in
          rw e (one_more (4194303 - p U) (omega arith) ∙ ap (interp 14 R) z)
    ]

pub value-is : (U : ℕ) → value_at (index_of U) (part_of U) ≡ v U / 64
value-is U = ap (λ (z : ℕ). z / 64) (line-is U)
