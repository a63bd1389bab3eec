-- The curve point of a bin: it is one of the curve's 8,193; for the bins of document 01 it is its
-- formula; the last bin of a size reads the last point; it never falls as the bin rises; where the
-- points are a whole number of times the bins, it is a product; and the two proved cases. Assumes
-- nothing.
use mathlib.Core.Path.{◌≡◌, refl, sym, ap, ◌∙◌}
use mathlib.Core.Logic.{inl, inr}
use Prim.Native.Nat.{ℕ, zero, suc, ◌+◌, ◌*◌, ◌/◌, ◌≤◌, ◌<◌, min, zero-le}
use native.Mathlib.Nat.{add-zero, zero-mul, mul-zero, mul_assoc, mul-le-mul, mul-add-div_right, div-zero, div-eq_of_lt, div-mul-le_self, le-div_iff_mul-le, le_refl, le_trans, le_of_eq, le_of_lt, eq-zero-or-pos}
use native.Mathlib.Decide.{dec_lt}
use native.Mathlib.Omega.{arith}
use Rattle.limits.specs.Lengths.{last_point}
use Rattle.masks.specs.Manual.{curve_point}

pub halved : (n : ℕ) → n / 2 / 2 ≡ n / 4
halved n = omega arith

at-least-zero : (n : ℕ) → n ≡ 0 → min n last_point ≡ 0
at-least-zero n h = omega arith

pub point-of-none : (bin size : ℕ) → size / 2 ≡ 0 → curve_point bin size ≡ 0
unfolding curve_point
point-of-none bin size h =
    let n = min bin last_point * last_point + size / 4 in
    at-least-zero (n / (size / 2)) (ap (λ (z : ℕ). n / z) h ∙ div-zero n)

pub point-le : (bin size : ℕ) → curve_point bin size ≤ last_point
unfolding curve_point
point-le bin size = omega arith

pub point-is : (bin size : ℕ) → bin ≤ last_point → curve_point bin size ≡ min ((bin * last_point + size / 4) / (size / 2)) last_point
unfolding curve_point
point-is bin size h =
    let e : min bin last_point ≡ bin = omega arith in
    ap (λ (z : ℕ). min ((z * last_point + size / 4) / (size / 2)) last_point) e

lesser-mono : (a b c : ℕ) → a ≤ b → min a c ≤ min b c
lesser-mono a b c h = omega arith

quotient-mono : (a b c : ℕ) → a ≤ b → a / c ≤ b / c
quotient-mono a b c h =
    elim (eq-zero-or-pos c) [
      | inl z ↦ le_trans (le_of_eq (ap (λ (n : ℕ). a / n) z ∙ div-zero a)) zero-le
      | inr p ↦ (le-div_iff_mul-le p).1 (le_trans (div-mul-le_self a c) h)
    ]

pub point-never-falls : (b b' size : ℕ) → b ≤ b' → curve_point b size ≤ curve_point b' size
unfolding curve_point
point-never-falls b b' size h = lesser-mono _ _ last_point (quotient-mono _ _ (size / 2) (omega arith))

-- the last bin of an accepted size
pub point-of-last : (size : ℕ) → 2 ≤ size → size ≤ 16384 → curve_point (size / 2) size ≡ last_point
point-of-last size h k =
    let s = size / 2 in
    let p : 0 < s = omega arith in
    let q : last_point ≤ (s * last_point + size / 4) / s = (le-div_iff_mul-le p).1 (omega arith) in
    point-is s size (omega arith) ∙ lesser-is ((s * last_point + size / 4) / s) q
  where
    lesser-is : (n : ℕ) → last_point ≤ n → min n last_point ≡ last_point
    lesser-is n l = omega arith

-- ---- where the points are `step` times the bins
step-pos : (step half : ℕ) → step * half ≡ last_point → 1 ≤ step
step-pos zero half e = absurd (let z = zero-mul half in omega arith)
step-pos (suc n) half e = omega arith

half_pos : (step half : ℕ) → step * half ≡ last_point → 0 < half
half_pos step zero e = absurd (let z = mul-zero step in omega arith)
half_pos step (suc n) e = omega arith

-- a bin above the last point counts as that, and so does the point that it would read
limited : (bin step : ℕ) → 1 ≤ step → min (min bin last_point * step) last_point ≡ min (bin * step) last_point
limited bin step p = go (dec_lt last_point bin)
  where
    go : Dec (last_point < bin) → min (min bin last_point * step) last_point ≡ min (bin * step) last_point
    go (no h) =
        let e : min bin last_point ≡ bin = omega arith in
        ap (λ (z : ℕ). min (z * step) last_point) e
    go (yes h) =
        let e : min bin last_point ≡ last_point = omega arith in
        let low : last_point * 1 ≤ last_point * step = mul-le-mul (le_refl last_point) p in
        let high : last_point * step ≤ bin * step = mul-le-mul (le_of_lt h) (le_refl step) in
        ap (λ (z : ℕ). min (z * step) last_point) e ∙ omega (arith, low, high)

pub point-by-step : (bin size step : ℕ) → step * (size / 2) ≡ last_point → curve_point bin size ≡ min (bin * step) last_point
unfolding curve_point
point-by-step bin size step e =
    let half = size / 2 in
    let p = half_pos step half e in
    let b = min bin last_point in
    let product : b * last_point ≡ b * step * half = ap (λ (z : ℕ). b * z) (sym e) ∙ sym (mul_assoc b step half) in
    let none : (size / 4) / half ≡ 0 = div-eq_of_lt (omega arith) in
    let quotient : (b * last_point + size / 4) / half ≡ b * step =
    ap (λ (z : ℕ). (z + size / 4) / half) product ∙ mul-add-div_right p (b * step) (size / 4) ∙ ap (λ (z : ℕ). b * step + z) none ∙ add-zero (b * step) in
    ap (λ (z : ℕ). min z last_point) quotient ∙ limited bin step (step-pos step half e)

pub point-8192-1 : curve_point 1 8192 ≡ 2
unfolding curve_point
point-8192-1 = refl

pub point-64-1 : curve_point 1 64 ≡ 256
unfolding curve_point
point-64-1 = refl
