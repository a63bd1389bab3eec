-- As floats: floor(x) ≤ x < floor(x) + 1 for an x from 0 on whose floor is below 2 ^ 24, and the
-- rounded difference x - floor(x) is in 0..1. In units of the smallest float, floor(x) is a
-- multiple of one's units, and rounding keeps the order. Assumes nothing.
use mathlib.Core.Path.{◌≡◌, refl, sym, ap, ◌∙◌, subst}
use mathlib.Core.Bool.{true, false}
use Prim.Native.Nat.{ℕ, suc, ◌+◌, ◌-◌, ◌*◌, ◌/◌, ◌^◌, ◌≤◌, ◌<◌, min, zero-le}
use native.Mathlib.Nat.{le_trans, le_of_eq, lt_of_lt_of_le, lt_of_le_of_lt, mul_right_comm, mul-one, mul-le-mul_right, mul-lt-mul_of_pos_right, le_of_mul-le-mul_right, lt_of_mul-lt-mul_right, suc-mul, zero-mul}
use native.Mathlib.Omega.{arith}
use lib.Dec.{T, lit≤}
use lib.IntN.{pos}
use lib.Pow.{pow_pos}
use lib.Ieee.{Float, nan, inf, fin, Format, binary32, prec, low, up, down, le, lt, sub, round, of_int}
use lib.Ieee.Fits.{down_pos, round-fits}
use lib.Ieee.Scale.{overflow}
use lib.Ieee.Back.{round_whole}
use Rattle.float_laws.specs.Units.{mag, key, number, real, key→le, key→lt, real-number, mag-exact, mag-below}
use Rattle.float_laws.specs.Round.{plus_zero, rnd, key-round, mag-round, mag-of-value, round_number, rnd-real, real-zero}
use Rattle.float_laws.specs.Mono.{center-up, rnd_u, rnd_u-mono, sub-key, sub_number, size-nonneg, key-nonneg, nonneg-key}
use Rattle.float_laws.specs.Bounds.{one, real-one, mag-one, real-between, round-nonneg}
use Rattle.counts.specs.Counts.{count_of, floor_count}
use Rattle.counts.proofs.Whole.{floor-at-most, floor-next}

-- ---- from the fraction a / b to g units of 1 / L
module _ (n a b g L : ℕ) (B : 0 < b) (e : g * b ≡ a * L) where
  units-le : n * b ≤ a → n * L ≤ g
  units-le h = le_of_mul-le-mul_right (le_trans (le_of_eq (mul_right_comm n L b)) (le_trans (mul-le-mul_right L h) (le_of_eq (sym e)))) B

  units_lt : 0 < L → a < n * b → g < n * L
  units_lt l h = lt_of_mul-lt-mul_right b (lt_of_le_of_lt (le_of_eq e) (lt_of_lt_of_le (mul-lt-mul_of_pos_right h l) (le_of_eq (mul_right_comm n b L))))

-- ---- the count in units, of a float from 0 on
uncapped : (w n : ℕ) → min w 18446744073709551615 ≡ n → n < 16777216 → w ≡ n
uncapped w n e h = omega arith

nothing : (K m : ℕ) → K ≤ K - m → m < K → m ≡ 0
nothing K m h l = omega arith

record Between (f : Format) (x : Float) (n : ℕ) : Type 0 where
  least : n * 2 ^ low f ≤ mag f x
  next : mag f x < suc n * 2 ^ low f

in-units : (x : Float) (n : ℕ) → T (real binary32 x) → T (le plus_zero x) → floor_count x ≡ n → n < 16777216 → Between binary32 x n
unfolding count_of
in-units nan n p X e h = absurd p
in-units (inf s) n p X e h = absurd p
in-units (fin false m k) n p X e h =
    let w = uncapped (m * up k / down k) n e h in
    record {
      least = units-le n (m * up k) (down k) (mag binary32 (fin false m k)) (2 ^ 149) (down_pos k) (mag-exact binary32 false m k p) (subst (λ (z : ℕ). z * down k ≤ m * up k) w (floor-at-most (m * up k) (down k)));
      next =
          units_lt (suc n) (m * up k) (down k) (mag binary32 (fin false m k)) (2 ^ 149) (down_pos k) (mag-exact binary32 false m k p) (pow_pos 149)
          (subst (λ (z : ℕ). m * up k < suc z * down k) w (floor-next (m * up k) (down k) (down_pos k)));
    }
in-units (fin true m k) n p X e h =
    let z = nothing (overflow binary32) (mag binary32 (fin true m k)) (nonneg-key binary32 (fin true m k) p X) (mag-below binary32 (fin true m k) p) in
    record {
      least = subst (λ (i : ℕ). i * 2 ^ 149 ≤ mag binary32 (fin true m k)) e (le_trans (le_of_eq (zero-mul (2 ^ 149))) zero-le);
      next = subst (λ (i : ℕ). mag binary32 (fin true m k) < suc i * 2 ^ 149) e (le_trans (le_of_eq (ap suc z)) (lit≤ tt));
    }

-- ---- so in floats
whole-size : (f : Format) (n : ℕ) → n ≤ 2 ^ prec f → rnd f n 1 ≡ n * 2 ^ low f
whole-size f n h =
    sym (mag-round f false n 1) ∙ sym (mul-one (mag f (round f false n 1))) ∙ mag-of-value f (round f false n 1) false n 1 (round-fits f false n 1) (round_whole f false n h)

module _ (f : Format) (x : Float) (n : ℕ) (p : T (real f x)) (X : T (le plus_zero x)) (h : suc n ≤ 2 ^ prec f) (b : Between f x n) where
  key-whole : (k : ℕ) → k ≤ 2 ^ prec f → key f (of_int f (pos k)) ≡ overflow f + k * 2 ^ low f
  unfolding of_int
  key-whole k l = key-round f false k 1 ∙ ap (λ (z : ℕ). overflow f + z) (whole-size f k l)

  whole-number : (k : ℕ) → T (number f (of_int f (pos k)))
  unfolding of_int
  whole-number k = round_number f false k 1

  floor-le : T (le (of_int f (pos n)) x)
  floor-le = key→le f (of_int f (pos n)) x (whole-number n) (real-number f x p) (omega (arith, key-whole n (omega arith), size-nonneg f x p X, b.least))

  next-gt : T (lt x (of_int f (pos (suc n))))
  next-gt = key→lt f x (of_int f (pos (suc n))) (real-number f x p) (whole-number (suc n)) (omega (arith, key-whole (suc n) h, size-nonneg f x p X, b.next))

  low_end : T (le plus_zero (of_int f (pos n)))
  unfolding of_int
  low_end = round-nonneg f n 1

  floor-real : T (real f (of_int f (pos n)))
  floor-real = real-between f plus_zero (of_int f (pos n)) x (whole-number n) (real-zero f false) p low_end floor-le

  rest-key : key f (sub f x (of_int f (pos n))) ≡ overflow f + rnd_u f (mag f x - n * 2 ^ low f)
  rest-key =
      let K = overflow f in
      sub-key f x (of_int f (pos n)) p floor-real
      ∙ center-up K (rnd_u f) (key f x + (K + K - key f (of_int f (pos n)))) (mag f x - n * 2 ^ low f) (omega (arith, key-whole n (omega arith), size-nonneg f x p X, b.least, mag-below f x p))

  rest-low : T (le plus_zero (sub f x (of_int f (pos n))))
  rest-low = key-nonneg f (sub f x (of_int f (pos n))) (sub_number f x (of_int f (pos n)) p floor-real) (omega (arith, rest-key))

  rest-high : T (le (sub f x (of_int f (pos n))) one)
  rest-high =
      let r : mag f x - n * 2 ^ low f ≤ mag f one = omega (arith, mag-one f, b.next, suc-mul n (2 ^ low f)) in
      key→le f (sub f x (of_int f (pos n))) one (sub_number f x (of_int f (pos n)) p floor-real) (real-number f one (real-one f))
      (omega (arith, rest-key, rnd_u-mono f (mag f x - n * 2 ^ low f) (mag f one) r, rnd-real f one (real-one f)))

-- ---- for a caller
module _ (x : Float) (p : T (real binary32 x)) (X : T (le plus_zero x)) (h : floor_count x < 16777216) where
  abbrev floored : Float
  floored = of_int binary32 (pos (floor_count x))

  between : Between binary32 x (floor_count x)
  between = in-units x (floor_count x) p X refl h

  pub floor-not-above : T (le floored x)
  floor-not-above = floor-le binary32 x (floor_count x) p X h between

  pub below_next : T (lt x (of_int binary32 (pos (suc (floor_count x)))))
  below_next = next-gt binary32 x (floor_count x) p X h between

  pub rest-from-zero : T (le plus_zero (sub binary32 x floored))
  rest-from-zero = rest-low binary32 x (floor_count x) p X h between

  pub rest-to-one : T (le (sub binary32 x floored) one)
  rest-to-one = rest-high binary32 x (floor_count x) p X h between
