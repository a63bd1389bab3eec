-- Smoothstep, p * p * (3 - 2 * p) rounded at each operation, stays in 0..1 for p in 0..1. Up to 3/4
-- it is below 1 by monotone rounding, in three stretches. From 3/4 up 3 - 2 * p is exact and p * p
-- is off by at most one part in 2 ^ 24; the exact product is at most 1, so what is rounded last is
-- at most 1 + 2 ^ -24, and that rounds to 1. Assumes nothing.
use Rattle.std.proofs.Common.{◌≡◌, ℕ, ◌+◌, ◌*◌, ◌^◌, ◌≤◌, false, T, pos, negsuc, sym, refl, ap, ◌∙◌, subst, inl, inr, le_trans, le_of_eq, lt_of_le_of_lt, mul-le-mul_right, mul-one, arith, lit<, lit≤}
use lib.Count.{count_trailing_zeros}
use lib.Ieee.{Float, fin, binary32, le, sub, mul, of_bits, fits, neg, add, sum, round, size, span, climb, units, odd}
use lib.Ieee.Scale.{overflow}
use Rattle.float_laws.specs.Units.{mag, number, real, key, real-number}
use Rattle.float_laws.specs.Order.{le-refl-f, le-trans-f, le-total-f}
use Rattle.float_laws.specs.Round.{plus_zero, rnd}
use Rattle.float_laws.specs.Ops.{mul-comm-f}
use Rattle.float_laws.specs.Mono.{rnd_u, sub-mono, sub_number, mul_mono, mul-number, mul-nonneg, size-nonneg, sizes}
use Rattle.float_laws.specs.Bounds.{one, real-one, mag-one, real-between, mul-real}
use Rattle.float_laws.specs.Exact.{mul-two, sub-near}
use Rattle.float32.specs.Smoothstep.{two, three, smoothstep}
use Rattle.float32.proofs.InUnit.{InUnit, in-unit, zero-in-unit, one-in-unit}
use Rattle.float32.proofs.LastStretch.{last-stretch}

two-real : T (real binary32 two)
unfolding of_bits fits
two-real = tt

two-0 : T (le plus_zero two)
unfolding of_bits le
two-0 = tt

three-real : T (real binary32 three)
unfolding of_bits fits
three-real = tt

three-0 : T (le plus_zero three)
unfolding of_bits le
three-0 = tt

abbrev twice : Float → Float
twice p = mul binary32 two p

abbrev rest : Float → Float
rest p = sub binary32 three (twice p)

module _ (p : Float) (u : InUnit p) where
  twice-real : T (real binary32 (twice p))
  twice-real = mul-real binary32 two p two-real u.finite two-0 u.low u.high

  twice-0 : T (le plus_zero (twice p))
  twice-0 = mul-nonneg binary32 two p two-real u.finite two-0 u.low

rest-turns : (p q : Float) → InUnit p → InUnit q → T (le p q) → T (le (rest q) (rest p))
rest-turns p q u v h =
    sub-mono binary32 three three (twice q) (twice p) three-real three-real (twice-real q v) (twice-real p u) (le-refl-f binary32 three (real-number binary32 three three-real))
    (mul_mono binary32 two two p q two-real two-real u.finite v.finite two-0 u.low (le-refl-f binary32 two (real-number binary32 two two-real)) h)

module _ (p : Float) (u : InUnit p) where
  rest-number : T (number binary32 (rest p))
  rest-number = sub_number binary32 three (twice p) three-real (twice-real p u)

  -- 1 ≤ 3 - 2 * p ≤ 3
  rest-real : T (real binary32 (rest p))
  unfolding of_bits fits mul sub neg add sum round size span climb units odd count_trailing_zeros
  rest-real = real-between binary32 (rest one) (rest p) (rest plus_zero) rest-number tt tt (rest-turns p one u one-in-unit u.high) (rest-turns plus_zero p zero-in-unit u u.low)

  one-rest : T (le plus_zero (rest one))
  unfolding of_bits le mul sub neg add sum round size span climb units odd count_trailing_zeros
  one-rest = tt

  rest_0 : T (le plus_zero (rest p))
  unfolding fits
  rest_0 = le-trans-f binary32 plus_zero (rest one) (rest p) tt (sub_number binary32 three (twice one) three-real (twice-real one one-in-unit)) rest-number one-rest (rest-turns p one u one-in-unit u.high)

  squared-real : T (real binary32 (mul binary32 p p))
  squared-real = mul-real binary32 p p u.finite u.finite u.low u.low u.high

  squared-0 : T (le plus_zero (mul binary32 p p))
  squared-0 = mul-nonneg binary32 p p u.finite u.finite u.low u.low

  step-number : T (number binary32 (smoothstep p))
  unfolding smoothstep
  step-number = mul-number binary32 (mul binary32 p p) (rest p) squared-real rest-real

  smoothstep-nonneg : T (le plus_zero (smoothstep p))
  unfolding smoothstep
  smoothstep-nonneg = mul-nonneg binary32 (mul binary32 p p) (rest p) squared-real rest-real squared-0 rest_0

-- ---- a stretch lo..hi: hi * hi * (3 - 2 * lo) is at most 1
abbrev corner : Float → Float → Float
corner lo hi = mul binary32 (mul binary32 hi hi) (rest lo)

stretch : (lo hi p : Float) → InUnit lo → InUnit hi → InUnit p → T (le lo p) → T (le p hi) → T (le (corner lo hi) one) → T (le (smoothstep p) one)
unfolding smoothstep fits
stretch lo hi p l h u a b c =
    le-trans-f binary32 (smoothstep p) (corner lo hi) one (step-number p u) (mul-number binary32 (mul binary32 hi hi) (rest lo) (squared-real hi h) (rest-real lo l)) tt
    (mul_mono binary32 (mul binary32 p p) (mul binary32 hi hi) (rest p) (rest lo) (squared-real p u) (squared-real hi h) (rest-real p u) (rest-real lo l) (squared-0 p u) (rest_0 p u)
    (mul_mono binary32 p hi p hi u.finite h.finite u.finite h.finite u.low u.low b b)
    (rest-turns lo p l u a))
    c

abbrev half : Float
half = fin false 1 (negsuc 0)

abbrev five_eighths : Float
five_eighths = fin false 5 (negsuc 2)

abbrev three_quarters : Float
three_quarters = fin false 3 (negsuc 1)

half-unit : InUnit half
unfolding fits le
half-unit = record { finite = tt; low = tt; high = tt }

five-unit : InUnit five_eighths
unfolding fits le
five-unit = record { finite = tt; low = tt; high = tt }

three-unit : InUnit three_quarters
unfolding fits le
three-unit = record { finite = tt; low = tt; high = tt }

corner-1 : T (le (corner plus_zero half) one)
unfolding of_bits le mul sub neg add sum round size span climb units odd count_trailing_zeros
corner-1 = tt

corner-2 : T (le (corner half five_eighths) one)
unfolding of_bits le mul sub neg add sum round size span climb units odd count_trailing_zeros
corner-2 = tt

corner-3 : T (le (corner five_eighths three_quarters) one)
unfolding of_bits le mul sub neg add sum round size span climb units odd count_trailing_zeros
corner-3 = tt

-- ---- from 3/4 up
two_is : two ≡ fin false 1 (pos 1)
unfolding of_bits
two_is = refl

three-size : mag binary32 three ≡ 3 * 2 ^ 149
unfolding of_bits mag
three-size = refl

quarters-size : 4 * mag binary32 three_quarters ≡ 3 * 2 ^ 149
unfolding mag
quarters-size = refl

tie : rnd_u binary32 (2 ^ 149 + 2 ^ 125) ≤ 2 ^ 149
unfolding rnd round mag
tie = lit≤ tt

least-near : (q m L : ℕ) → 4 * q ≡ 3 * L → q ≤ m → 3 * L ≤ m * 2 * 2
least-near q m L e h = omega arith

most-near : (m L : ℕ) → m ≤ L → m * 2 ≤ 3 * L * 2
most-near m L h = omega arith

at-least-half : (q m L : ℕ) → 4 * q ≡ 3 * L → q ≤ m → L ≤ m * 2
at-least-half q m L e h = omega arith

difference : (K kr kt k3 r t n : ℕ) → kr + kt ≡ k3 + K → kr ≡ K + r → kt ≡ K + t → k3 ≡ K + n → r + t ≡ n
difference K kr kt k3 r t n e a b c = omega arith

module _ (p : Float) (u : InUnit p) (h : T (le three_quarters p)) where
  p-most : mag binary32 p ≤ 2 ^ 149
  p-most = le_trans (sizes binary32 p one u.finite (real-one binary32) u.low u.high).0 (le_of_eq (mag-one binary32))

  p-least : mag binary32 three_quarters ≤ mag binary32 p
  p-least = (sizes binary32 three_quarters p three-unit.finite u.finite three-unit.low h).0

  twice-size : mag binary32 (twice p) ≡ mag binary32 p * 2
  unfolding fits
  twice-size =
      ap (λ (z : Float). mag binary32 (mul binary32 z p)) two_is
      ∙ ap (mag binary32) (mul-comm-f binary32 (fin false 1 (pos 1)) p)
      ∙ mul-two binary32 p (pos 1) (mag binary32 p * 2) u.finite tt (lt_of_le_of_lt (mul-le-mul_right 2 p-most) (lit< tt)) (mul-one (mag binary32 p * 2))

  rest-exact : mag binary32 (rest p) + mag binary32 p * 2 ≡ 3 * 2 ^ 149
  rest-exact =
      let y = twice p in
      let m = mag binary32 p in
      let e = twice-size in
      let a : mag binary32 three ≤ mag binary32 y * 2 = subst (λ (z : ℕ). z ≤ mag binary32 y * 2) (sym three-size) (subst (λ (z : ℕ). 3 * 2 ^ 149 ≤ z * 2) (sym e) (least-near (mag binary32 three_quarters) m (2 ^ 149) quarters-size p-least)) in
      let b : mag binary32 y ≤ mag binary32 three * 2 = subst (λ (z : ℕ). mag binary32 y ≤ z * 2) (sym three-size) (subst (λ (z : ℕ). z ≤ 3 * 2 ^ 149 * 2) (sym e) (most-near m (2 ^ 149) p-most)) in
      let d =
      difference (overflow binary32) (key binary32 (rest p)) (key binary32 y) (key binary32 three) (mag binary32 (rest p)) (mag binary32 y) (mag binary32 three)
      (sub-near binary32 three y three-real (twice-real p u) three-0 (twice-0 p u) a b)
      (size-nonneg binary32 (rest p) (rest-real p u) (rest_0 p u))
      (size-nonneg binary32 y (twice-real p u) (twice-0 p u))
      (size-nonneg binary32 three three-real three-0) in
      ap (λ (z : ℕ). mag binary32 (rest p) + z) (sym e) ∙ d ∙ three-size

  from-three-quarters : T (le (smoothstep p) one)
  unfolding smoothstep
  from-three-quarters =
      last-stretch binary32 refl (lit≤ tt) (2 ^ 149 + 2 ^ 125) refl tie p (rest p) u.finite (rest-real p u) u.low u.high (rest_0 p u)
      (at-least-half (mag binary32 three_quarters) (mag binary32 p) (2 ^ 149) quarters-size p-least) rest-exact

-- ---- the whole of 0..1
unit-number : (p : Float) → InUnit p → T (number binary32 p)
unit-number p u = real-number binary32 p u.finite

smoothstep-at-most-one : (p : Float) → InUnit p → T (le (smoothstep p) one)
smoothstep-at-most-one p u =
    elim (le-total-f binary32 p half (unit-number p u) (unit-number half half-unit)) [
      | inl a ↦ stretch plus_zero half p zero-in-unit half-unit u u.low a corner-1
      | inr a ↦
          elim (le-total-f binary32 p five_eighths (unit-number p u) (unit-number five_eighths five-unit)) [
            | inl b ↦ stretch half five_eighths p half-unit five-unit u a b corner-2
            | inr b ↦
                elim (le-total-f binary32 p three_quarters (unit-number p u) (unit-number three_quarters three-unit)) [
                  | inl c ↦ stretch five_eighths three_quarters p five-unit three-unit u b c corner-3
                  | inr c ↦ from-three-quarters p u c
                ]
          ]
    ]

pub smoothstep-in-unit : (p : Float) → InUnit p → InUnit (smoothstep p)
smoothstep-in-unit p u = in-unit (smoothstep p) (step-number p u) (smoothstep-nonneg p u) (smoothstep-at-most-one p u)
