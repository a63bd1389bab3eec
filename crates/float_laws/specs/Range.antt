-- A value moved part of the way to another, as envelopes and the Gaussian lookup have it: `toward f
-- a b t` is a + (b - a) * t, rounded at each operation, with t in 0..1. Toward a lower b it stays
-- in 0..a. (It can pass below b: from 1 toward 2 ^ -30 it comes to 0.) Toward 1 it stays between
-- the level and 1: 1 - l is off by half a last place at most, so the sum is at most 1 + 2 ^ -24,
-- which rounds to 1. Assumes nothing.
use Rattle.std.specs.Prelude.{◌≡◌, refl, Bool, true, false, ℕ, ◌+◌, ◌-◌, ◌*◌, ◌^◌, ◌≤◌, ◌<◌, T, Float}
use Rattle.std.proofs.Common.{sym, ap, ◌∙◌, subst, le_trans, le_of_eq, le_of_lt, arith, lit≤}
use Rattle.std.specs.Float.{Format, binary32}
use Rattle.std.specs.Float.Ieee.{low, prec, le, add, sub, mul, round, neg}
use Rattle.std.specs.Float.Ieee.Scale.{overflow}
use Rattle.float_laws.specs.Units.{mag, sign, number, real, key, keyed, key→le, real-number, mag-below}
use Rattle.float_laws.specs.Round.{plus_zero, key-zero, rnd, rnd-real, real-zero}
use Rattle.float_laws.specs.Mono.{rnd_u, rnd_u-mono, rnd_u-zero, center-up, center-down, add-key, sub-key, add-number, sub_number, mul-number, mul-nonneg, nonneg-key, key-nonneg, size-nonneg, sizes, real-neg, key-neg, rnd_m, mul-key, center-mono}
use Rattle.float_laws.specs.Bounds.{one, real-one, mag-one, real-between, sub-nonneg, mul-le-left, mul-real, rnd_m-le}
use Rattle.float_laws.specs.Error.{Close, rnd-close}

abbrev pub toward : Format → Float → Float → Float → Float
toward f a b t = add f a (mul f (sub f b a) t)

-- ---- toward what is lower
shrinks : (K : ℕ) (s : Bool) (m r : ℕ) → m ≤ K → r ≤ m → keyed K s m ≤ K → (keyed K s m ≤ keyed K s r) × (keyed K s r ≤ K)
shrinks K false m r M h k = omega arith
shrinks K true m r M h k = omega arith

module _ (f : Format) (a b t : Float) (p : T (real f a)) (q : T (real f b)) (r : T (real f t)) (b0 : T (le plus_zero b)) (h : T (le b a))
    (t0 : T (le plus_zero t)) (t1 : T (le t one)) where
  sizes-ba : (mag f b ≤ mag f a) × (key f b ≡ overflow f + mag f b) × (key f a ≡ overflow f + mag f a)
  sizes-ba = sizes f b a q p b0 h

  drop-key : key f (sub f b a) + rnd_u f (mag f a - mag f b) ≡ overflow f
  drop-key =
      let K = overflow f in
      let n = mag f a - mag f b in
      let s = sizes-ba in
      let m = mag-below f a p in
      let small : rnd_u f n ≤ mag f a = le_trans (rnd_u-mono f n (mag f a) (omega arith)) (le_of_eq (rnd-real f a p)) in
      omega (arith, sub-key f b a q p ∙ center-down K (rnd_u f) (key f b + (K + K - key f a)) n (rnd_u-zero f) (omega arith))

  drop-bounds : (overflow f ≤ key f (sub f b a) + mag f a) × (key f (sub f b a) ≤ overflow f)
  drop-bounds =
      let n = mag f a - mag f b in
      let small : rnd_u f n ≤ mag f a = le_trans (rnd_u-mono f n (mag f a) (omega arith)) (le_of_eq (rnd-real f a p)) in
      (omega (arith, drop-key), omega (arith, drop-key))

  drop-real : T (real f (sub f b a))
  drop-real =
      let n = real-neg f a p in
      let z = real-zero f false in
      let d = sub_number f b a q p in
      let s = sizes-ba in
      real-between f (neg a) (sub f b a) plus_zero d n z
      (key→le f (neg a) (sub f b a) (real-number f (neg a) n) d (omega (arith, drop-bounds, key-neg f a (real-number f a p))))
      (key→le f (sub f b a) plus_zero d (real-number f plus_zero z) (omega (arith, drop-bounds, key-zero f)))

  step-key : (key f (sub f b a) ≤ key f (mul f (sub f b a) t)) × (key f (mul f (sub f b a) t) ≤ overflow f)
  step-key =
      let d = sub f b a in
      let w = shrinks (overflow f) (sign d) (mag f d) (rnd_m f (mag f d) (mag f t)) (le_of_lt (mag-below f d drop-real)) (rnd_m-le f d t drop-real r t0 t1) drop-bounds.1 in
      let e = mul-key f d t drop-real r (nonneg-key f t (real-number f t r) t0) in
      (omega (arith, e, w.0), omega (arith, e, w.1))

  step-real : T (real f (mul f (sub f b a) t))
  step-real =
      let d = sub f b a in
      let s = mul f d t in
      let z = real-zero f false in
      let n = mul-number f d t drop-real r in
      real-between f d s plus_zero n drop-real z (key→le f d s (real-number f d drop-real) n step-key.0)
      (key→le f s plus_zero n (real-number f plus_zero z) (omega (arith, step-key.1, key-zero f)))

  result-number : T (number f (toward f a b t))
  result-number = add-number f a (mul f (sub f b a) t) p step-real

  -- a sum of keys that is 2 K + m at least, or at most, for a value of the size m
  at_least : (c : Float) → T (real f c) → overflow f + overflow f + mag f c ≤ key f a + key f (mul f (sub f b a) t)
      → overflow f + mag f c ≤ key f (toward f a b t)
  at_least c k l =
      let K = overflow f in
      let u = key f a + key f (mul f (sub f b a) t) in
      omega
      (arith, add-key f a (mul f (sub f b a) t) p step-real, center-up K (rnd_u f) (K + K + mag f c) (mag f c) refl, center-mono K (rnd_u f) (rnd_u-mono f) (K + K + mag f c) u l, rnd-real f c k)

  pub toward-lower-nonneg : T (le plus_zero (toward f a b t))
  toward-lower-nonneg =
      let s = sizes-ba in
      let z = at_least plus_zero (real-zero f false) (omega (arith, key-zero f, drop-bounds, step-key)) in
      key-nonneg f (toward f a b t) result-number (omega (arith, z, key-zero f))

  pub toward-lower-most : T (le (toward f a b t) a)
  toward-lower-most =
      let K = overflow f in
      let m = mag f a in
      let u = key f a + key f (mul f (sub f b a) t) in
      let s = sizes-ba in
      key→le f (toward f a b t) a result-number (real-number f a p)
      (omega (arith, add-key f a (mul f (sub f b a) t) p step-real, center-up K (rnd_u f) (K + K + m) m refl, center-mono K (rnd_u f) (rnd_u-mono f) u (K + K + m) (omega (arith, step-key)), rnd-real f a p))

  pub toward-lower-real : T (real f (toward f a b t))
  toward-lower-real = real-between f plus_zero (toward f a b t) a result-number (real-zero f false) p toward-lower-nonneg toward-lower-most

-- ---- toward 1
-- 1 + 2 ^ -24, halfway to the next value, rounds to 1, which is even
tie : rnd_u binary32 (2 ^ 149 + 2 ^ 125) ≤ 2 ^ 149
unfolding rnd round mag
tie = lit≤ tt

under-tie : (m r p L C : ℕ) → m ≤ L → 8388608 * (2 * r) ≤ 8388608 * (2 * (L - m)) + (L - m) → 16777216 * C ≡ 16777217 * L → p ≤ r → m + p ≤ C
under-tie m r p L C h a e k = omega arith

keys-sum : (K k j m n : ℕ) → k ≡ K + m → j ≡ K + n → k + j ≡ K + K + (m + n)
keys-sum K k j m n a b = omega arith

keys-minus : (K k j m n : ℕ) → k ≡ K + n → j ≡ K + m → m ≤ n → j ≤ K + K → k + (K + K - j) ≡ K + K + (n - m)
keys-minus K k j m n a b h l = omega arith

small-key : (K m : ℕ) → m < K → K + m ≤ K + K
small-key K m h = omega arith

module _ (f : Format) (P : 2 ^ (prec f - 1) ≡ 8388608) (C : ℕ) (eC : 16777216 * C ≡ 16777217 * 2 ^ low f) (rC : rnd_u f C ≤ 2 ^ low f)
    (l a : Float) (p : T (real f l)) (q : T (real f a)) (l0 : T (le plus_zero l)) (l1 : T (le l one)) (a0 : T (le plus_zero a)) (a1 : T (le a one)) where
  size-l : (mag f l ≤ mag f one) × (key f l ≡ overflow f + mag f l) × (key f one ≡ overflow f + mag f one)
  size-l = sizes f l one p (real-one f) l0 l1

  gap-key : key f (sub f one l) ≡ overflow f + rnd_u f (mag f one - mag f l)
  gap-key =
      let K = overflow f in
      let s = size-l in
      sub-key f one l (real-one f) p
      ∙ center-up K (rnd_u f) (key f one + (K + K - key f l)) (mag f one - mag f l)
      (keys-minus K (key f one) (key f l) (mag f l) (mag f one) s.2 s.1 s.0 (le_trans (le_of_eq s.1) (small-key K (mag f l) (mag-below f l p))))

  gap-0 : T (le plus_zero (sub f one l))
  gap-0 = sub-nonneg f one l (real-one f) p l1

  gap-1 : T (le (sub f one l) one)
  gap-1 =
      key→le f (sub f one l) one (sub_number f one l (real-one f) p) (real-number f one (real-one f))
      (omega (arith, gap-key, size-l.2, rnd_u-mono f (mag f one - mag f l) (mag f one) (omega arith), rnd-real f one (real-one f)))

  gap-real : T (real f (sub f one l))
  gap-real = real-between f plus_zero (sub f one l) one (sub_number f one l (real-one f) p) (real-zero f false) (real-one f) gap-0 gap-1

  rise-real : T (real f (mul f (sub f one l) a))
  rise-real = mul-real f (sub f one l) a gap-real q gap-0 a0 a1

  rise-0 : T (le plus_zero (mul f (sub f one l) a))
  rise-0 = mul-nonneg f (sub f one l) a gap-real q gap-0 a0

  rise-key : key f (toward f l one a) ≡ overflow f + rnd_u f (mag f l + mag f (mul f (sub f one l) a))
  rise-key =
      let K = overflow f in
      let t = mul f (sub f one l) a in
      add-key f l t p rise-real
      ∙ center-up K (rnd_u f) (key f l + key f t) (mag f l + mag f t)
      (keys-sum K (key f l) (key f t) (mag f l) (mag f t) (size-nonneg f l p l0) (size-nonneg f t rise-real rise-0))

  rise-number : T (number f (toward f l one a))
  rise-number = add-number f l (mul f (sub f one l) a) p rise-real

  rise-low : T (le l (toward f l one a))
  rise-low =
      let n = mag f l + mag f (mul f (sub f one l) a) in
      key→le f l (toward f l one a) (real-number f l p) rise-number
      (omega (arith, rise-key, size-nonneg f l p l0, rnd_u-mono f (mag f l) n (omega arith), rnd-real f l p))

  rise-high : T (le (toward f l one a) one)
  rise-high =
      let d = sub f one l in
      let t = mul f d a in
      let s = size-l in
      let n = mag f one - mag f l in
      let less = (sizes f t d rise-real gap-real rise-0 (mul-le-left f d a gap-real q gap-0 a0 a1)).0 in
      let kd : mag f d ≡ rnd_u f n = omega (arith, gap-key, size-nonneg f d gap-real gap-0) in
      let close = subst (λ (z : ℕ). Close z n (rnd_u f n)) P (rnd-close f n (subst (λ (z : ℕ). z < overflow f) kd (mag-below f d gap-real))) in
      let one-is = mag-one f in
      let top : mag f l + mag f t ≤ C = under-tie (mag f l) (rnd_u f n) (mag f t) (mag f one) C s.0 close.hi (eC ∙ ap (λ (z : ℕ). 16777217 * z) (sym one-is)) (le_trans less (le_of_eq kd)) in
      key→le f (toward f l one a) one rise-number (real-number f one (real-one f))
      (omega (arith, rise-key, s.2, rnd_u-mono f (mag f l + mag f t) C top, rC, one-is))

-- for f32
module _ (l a : Float) (p : T (real binary32 l)) (q : T (real binary32 a)) (l0 : T (le plus_zero l)) (l1 : T (le l one)) (a0 : T (le plus_zero a))
    (a1 : T (le a one)) where
  pub toward-one-least : T (le l (toward binary32 l one a))
  toward-one-least = rise-low binary32 refl (2 ^ 149 + 2 ^ 125) refl tie l a p q l0 l1 a0 a1

  pub toward-one-most : T (le (toward binary32 l one a) one)
  toward-one-most = rise-high binary32 refl (2 ^ 149 + 2 ^ 125) refl tie l a p q l0 l1 a0 a1

  pub toward-one-real : T (real binary32 (toward binary32 l one a))
  toward-one-real =
      real-between binary32 l (toward binary32 l one a) one (rise-number binary32 refl (2 ^ 149 + 2 ^ 125) refl tie l a p q l0 l1 a0 a1) p (real-one binary32) toward-one-least toward-one-most
