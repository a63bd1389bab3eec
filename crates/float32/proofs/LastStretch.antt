-- p * p * t, rounded twice, is at most 1 where p is from 1/2 to 1 and t is 3 - 2 * p exactly: p * p
-- is off by at most one part in 2 ^ 24, and the exact product is at most 1, so what is rounded last
-- is at most 1 + 2 ^ -24. Where that rounds to 1, so does the product. For any format; `Smoothstep`
-- has it for f32. Assumes nothing.
use Rattle.std.proofs.Common.{◌≡◌, ℕ, ◌+◌, ◌-◌, ◌*◌, ◌^◌, ◌<◌, ◌≤◌, T, sym, ap, subst, le_trans, le_of_eq, mul-le-mul_right, mul_assoc, mul_comm, add-mul, mul-le-mul, mul-le-mul_left, mul-add, mul_right_comm, le_of_mul-le-mul_right, mul_left_comm, arith, pow_pos}
use lib.Ieee.{Float, Format, prec, low, le, mul}
use lib.Ieee.Scale.{overflow}
use Rattle.float_laws.specs.Units.{mag, real, key→le, real-number, mag-below}
use Rattle.float_laws.specs.Round.{plus_zero, rnd-mono, squared-pos}
use Rattle.float_laws.specs.Mono.{rnd_u, rnd_m, mul-number, mul-key-nonneg, mul-nonneg, size-nonneg, sizes}
use Rattle.float_laws.specs.Bounds.{one, real-one, mag-one, mul-real}
use Rattle.float_laws.specs.Error.{Relative, rnd-relative}

-- ---- whole numbers: m * m * (3 * L - 2 * m) ≤ L * L * L, with d = L - m
first : (m d : ℕ) → m * (m + 3 * d) ≤ (m + d) * (m + 2 * d)
first m d =
    let a : m * (m + 3 * d) ≡ m * m + m * (3 * d) = mul-add m m (3 * d) in
    let b : m * (3 * d) ≡ 3 * (m * d) = mul_left_comm m 3 d in
    let c : (m + d) * (m + 2 * d) ≡ m * (m + 2 * d) + d * (m + 2 * d) = add-mul m d (m + 2 * d) in
    let e : m * (m + 2 * d) ≡ m * m + m * (2 * d) = mul-add m m (2 * d) in
    let g : m * (2 * d) ≡ 2 * (m * d) = mul_left_comm m 2 d in
    let h : d * (m + 2 * d) ≡ d * m + d * (2 * d) = mul-add d m (2 * d) in
    let i : d * m ≡ m * d = mul_comm d m in
    omega arith

second : (m d : ℕ) → m * (m + 2 * d) ≤ (m + d) * (m + d)
second m d =
    let e : m * (m + 2 * d) ≡ m * m + m * (2 * d) = mul-add m m (2 * d) in
    let g : m * (2 * d) ≡ 2 * (m * d) = mul_left_comm m 2 d in
    let c : (m + d) * (m + d) ≡ m * (m + d) + d * (m + d) = add-mul m d (m + d) in
    let a : m * (m + d) ≡ m * m + m * d = mul-add m m d in
    let h : d * (m + d) ≡ d * m + d * d = mul-add d m d in
    let i : d * m ≡ m * d = mul_comm d m in
    omega arith

cubic : (m d : ℕ) → m * m * (m + 3 * d) ≤ (m + d) * ((m + d) * (m + d))
cubic m d =
    le_trans (le_of_eq (mul_assoc m m (m + 3 * d)))
    (le_trans (mul-le-mul_left m (first m d))
    (le_trans (le_of_eq (mul_left_comm m (m + d) (m + 2 * d))) (mul-le-mul_left (m + d) (second m d))))

under_one : (m t L : ℕ) → m ≤ L → t + m * 2 ≡ 3 * L → m * m * t ≤ L * (L * L)
under_one m t L h e =
    let a : t ≡ m + 3 * (L - m) = omega arith in
    let b : m + (L - m) ≡ L = omega arith in
    subst (λ (z : ℕ). m * m * t ≤ z * (z * z)) b (subst (λ (z : ℕ). m * m * z ≤ (m + (L - m)) * ((m + (L - m)) * (m + (L - m)))) (sym a) (cubic m (L - m)))

-- q is m * m / L within one part in 2 ^ 24, and C is 1 + 2 ^ -24 of L
strip : (q n L : ℕ) → 0 < L → 8388608 * (2 * (q * (L * L))) ≤ 8388608 * (2 * (n * L)) + n * L → 16777216 * (q * L) ≤ 16777217 * n
strip q n L P h =
    let a : q * (L * L) ≡ q * L * L = sym (mul_assoc q L L) in
    let b : 16777216 * (q * L) * L ≡ 16777216 * (q * L * L) = mul_assoc 16777216 (q * L) L in
    let c : 16777217 * n * L ≡ 16777217 * (n * L) = mul_assoc 16777217 n L in
    le_of_mul-le-mul_right (omega arith) P

scaled : (q n t L C N : ℕ) → 16777216 * (q * L) ≤ 16777217 * n → n * t ≤ L * N → 16777216 * C ≡ 16777217 * L → q * t * L ≤ C * N
scaled q n t L C N h k e =
    let a : 16777216 * (q * L) * t ≤ 16777217 * n * t = mul-le-mul_right t h in
    let b : 16777216 * (q * L) * t ≡ 16777216 * (q * L * t) = mul_assoc 16777216 (q * L) t in
    let c : q * L * t ≡ q * t * L = mul_right_comm q L t in
    let g : 16777217 * n * t ≡ 16777217 * (n * t) = mul_assoc 16777217 n t in
    let i : 16777216 * C * N ≡ 16777217 * L * N = ap (λ (z : ℕ). z * N) e in
    let j : 16777216 * C * N ≡ 16777216 * (C * N) = mul_assoc 16777216 C N in
    let l : 16777217 * L * N ≡ 16777217 * (L * N) = mul_assoc 16777217 L N in
    omega arith

enough : (m L : ℕ) → 4 * 8388608 ≤ L → L ≤ m * 2 → 8388608 * (L * L) ≤ m * m * L
enough m L h k =
    let a : L * L ≤ m * 2 * (m * 2) = mul-le-mul k k in
    let b : m * 2 * (m * 2) ≡ 4 * (m * m) = omega (arith, mul_assoc m 2 (m * 2), mul_left_comm 2 m 2, mul_left_comm m m 4, mul_comm m 2) in
    let c : 4 * 8388608 * (L * L) ≤ L * (L * L) = mul-le-mul_right (L * L) h in
    let d : L * (L * L) ≤ L * (4 * (m * m)) = mul-le-mul_left L (le_trans a (le_of_eq b)) in
    let e : L * (4 * (m * m)) ≡ 4 * (L * (m * m)) = mul_left_comm L 4 (m * m) in
    let g : L * (m * m) ≡ m * m * L = mul_comm L (m * m) in
    let i : 4 * 8388608 * (L * L) ≡ 4 * (8388608 * (L * L)) = mul_assoc 4 8388608 (L * L) in
    omega arith

-- ---- where t is 3 - 2 * p exactly, and p is at least 1/2
module _ (f : Format) (P : 2 ^ (prec f - 1) ≡ 8388608) (big : 4 * 8388608 ≤ 2 ^ low f) (C : ℕ) (eC : 16777216 * C ≡ 16777217 * 2 ^ low f) (rC : rnd_u f C ≤ 2 ^ low f)
    (p t : Float) (r : T (real f p)) (q : T (real f t)) (p0 : T (le plus_zero p)) (p1 : T (le p one)) (t0 : T (le plus_zero t)) (from : 2 ^ low f ≤ mag f p * 2)
    (exact : mag f t + mag f p * 2 ≡ 3 * 2 ^ low f) where
  square-real : T (real f (mul f p p))
  square-real = mul-real f p p r r p0 p0 p1

  square-0 : T (le plus_zero (mul f p p))
  square-0 = mul-nonneg f p p r r p0 p0

  square-size : mag f (mul f p p) ≡ rnd_m f (mag f p) (mag f p)
  square-size = omega (arith, mul-key-nonneg f p p r r p0 p0, size-nonneg f (mul f p p) square-real square-0)

  p-size : mag f p ≤ 2 ^ low f
  p-size = le_trans (sizes f p one r (real-one f) p0 p1).0 (le_of_eq (mag-one f))

  square-near : Relative 8388608 (mag f p * mag f p * 2 ^ low f) (2 ^ low f * 2 ^ low f) (mag f (mul f p p))
  square-near =
      let m = mag f p in
      let L = 2 ^ low f in
      let a : rnd_m f m m < overflow f = subst (λ (z : ℕ). z < overflow f) square-size (mag-below f (mul f p p) square-real) in
      let b : 2 ^ (prec f - 1) * (L * L) ≤ m * m * L = subst (λ (z : ℕ). z * (L * L) ≤ m * m * L) (sym P) (enough m L big from) in
      subst (λ (z : ℕ). Relative 8388608 (m * m * L) (L * L) z) (sym square-size)
      (subst (λ (z : ℕ). Relative z (m * m * L) (L * L) (rnd_m f m m)) P (rnd-relative f (m * m) (L * L) (squared-pos f) a b))

  product-size : rnd_m f (mag f (mul f p p)) (mag f t) ≤ 2 ^ low f
  product-size =
      let m = mag f p in
      let L = 2 ^ low f in
      let L0 = pow_pos (low f) in
      let s = mag f (mul f p p) in
      let n = strip s (m * m) L L0 square-near.hi in
      le_trans (rnd-mono f (s * mag f t) (L * L) C L (squared-pos f) L0 (scaled s (m * m) (mag f t) L C (L * L) n (under_one m (mag f t) L p-size exact) eC)) rC

  pub last-stretch : T (le (mul f (mul f p p) t) one)
  last-stretch =
      key→le f (mul f (mul f p p) t) one (mul-number f (mul f p p) t square-real q) (real-number f one (real-one f))
      (omega (arith, mul-key-nonneg f (mul f p p) t square-real q square-0 t0, product-size, mag-one f))
