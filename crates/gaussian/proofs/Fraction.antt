-- What is left of a float from 0 up when its floor is taken away lies in 0..1: in units,
-- n * 2 ^ low ≤ x < (n + 1) * 2 ^ low for n its floor, and rounding keeps the order.
-- Assumes nothing.
use mathlib.Core.Path.{◌≡◌, refl, sym, ap, ◌∙◌, subst}
use mathlib.Core.Bool.{Bool, true, false}
use Prim.Native.Nat.{ℕ, suc, ◌+◌, ◌-◌, ◌*◌, ◌/◌, ◌^◌, ◌≤◌, ◌<◌, zero-le}
use native.Mathlib.Nat.{le_trans, le_of_eq, lt_of_le_of_lt, lt_of_lt_of_le, le_refl, le_of_mul-le-mul_right, mul-le-mul_right, lt_of_mul-lt-mul_right, mul-lt-mul_of_pos_right, mul_right_comm, zero-mul, one-mul, le-div_iff_mul-le, div-lt_iff_lt-mul}
use native.Mathlib.Omega.{arith}
use lib.Dec.{T}
use lib.Pow.{pow_pos}
use lib.IntN.{ℤ, pos}
use lib.Ieee.{Float, nan, inf, fin, Format, prec, low, up, down, le, sub, of_int}
use lib.Ieee.Fits.{down_pos}
use lib.Ieee.Scale.{overflow}
use Rattle.float_laws.specs.Units.{mag, number, real, key, keyed, key→le, real-number, mag-exact, overflow-pos}
use Rattle.float_laws.specs.Round.{plus_zero, real-zero}
use Rattle.float_laws.specs.Mono.{nonneg-key, size-nonneg, sub-mono, sub_number}
use Rattle.float_laws.specs.Bounds.{one, real-one, real-between, sub-nonneg}
use Rattle.float_laws.specs.Exact.{mag-whole, sign-whole, real-whole, whole_sub, whole-power}
use Rattle.counts.specs.Counts.{count_of, floor_count}
use Rattle.counts.proofs.CountBounds.{floor-under-value, next-over-value}

-- ---- whole numbers
module _ (f : Format) where
  key-whole : (n : ℕ) → n ≤ 2 ^ prec f → key f (of_int f (pos n)) ≡ overflow f + n * 2 ^ low f
  key-whole n h = ap (λ (s : Bool). keyed (overflow f) s (mag f (of_int f (pos n)))) (sign-whole f n h) ∙ ap (λ (m : ℕ). overflow f + m) (mag-whole f n h)

  number-whole : (n : ℕ) → n ≤ 2 ^ prec f → T (number f (of_int f (pos n)))
  number-whole n h = real-number f (of_int f (pos n)) (real-whole f n h)

  pub whole-mono : (m n : ℕ) → m ≤ n → n ≤ 2 ^ prec f → T (le (of_int f (pos m)) (of_int f (pos n)))
  whole-mono m n l h =
      let g = le_trans l h in
      key→le f (of_int f (pos m)) (of_int f (pos n)) (number-whole m g) (number-whole n h) (omega (arith, key-whole m g, key-whole n h, mul-le-mul_right (2 ^ low f) l))

-- ---- a floor in units
module _ (f : Format) where
  in-units : (a d m L n : ℕ) → 0 < d → m * d ≡ a * L → n * d ≤ a → n * L ≤ m
  in-units a d m L n z e h = le_of_mul-le-mul_right {k = d} (le_trans (le_of_eq (mul_right_comm n L d)) (le_trans (mul-le-mul_right L h) (le_of_eq (sym e)))) z

  in-units-above : (a d m L n : ℕ) → 0 < L → m * d ≡ a * L → a < n * d → m < n * L
  in-units-above a d m L n z e h = lt_of_mul-lt-mul_right d (lt_of_le_of_lt (le_of_eq e) (lt_of_lt_of_le (mul-lt-mul_of_pos_right h z) (le_of_eq (mul_right_comm n d L))))

  from-units : (a d m L n : ℕ) → 0 < L → m * d ≡ a * L → m ≤ n * L → a ≤ n * d
  from-units a d m L n z e h = le_of_mul-le-mul_right {k = L} (le_trans (le_of_eq (sym e)) (le_trans (mul-le-mul_right d h) (le_of_eq (mul_right_comm n L d)))) z

  none_below : (K m : ℕ) → 0 < K → K ≤ K - m → m ≡ 0
  none_below K m z h = omega arith

  no-count : (m : ℕ) (e : ℤ) → floor_count (fin true m e) ≡ 0
  unfolding count_of
  no-count m e = refl

  floor-in-units : (x : Float) → T (real f x) → T (le plus_zero x) → mag f x ≤ 18446744073709551615 * 2 ^ low f
      → (floor_count x * 2 ^ low f ≤ mag f x) × (mag f x < suc (floor_count x) * 2 ^ low f)
  floor-in-units nan p h r = absurd p
  floor-in-units (inf s) p h r = absurd p
  floor-in-units (fin false m e) p h r =
      let x = fin false m e in
      let v = mag-exact f false m e p in
      let L = 2 ^ low f in (
        in-units (m * up e) (down e) (mag f x) L (floor_count x) (down_pos e) v (floor-under-value x refl),
        in-units-above (m * up e) (down e) (mag f x) L (suc (floor_count x)) (pow_pos (low f)) v
            (next-over-value x refl (from-units (m * up e) (down e) (mag f x) L 18446744073709551615 (pow_pos (low f)) v r)),
      )
  floor-in-units (fin true m e) p h r =
      let z = none_below (overflow f) (mag f (fin true m e)) (overflow-pos f) (nonneg-key f (fin true m e) p h) in
      (rw (no-count m e, zero-mul) zero-le, rw (no-count m e, z, one-mul) (pow_pos (low f)))

  pub floor-by-size : (x : Float) → T (real f x) → T (le plus_zero x) → mag f x ≤ 18446744073709551615 * 2 ^ low f → floor_count x ≡ mag f x / 2 ^ low f
  floor-by-size x p h r =
      let u = floor-in-units x p h r in
      let a = (le-div_iff_mul-le (pow_pos (low f))).1 u.0 in
      let b = (div-lt_iff_lt-mul (pow_pos (low f))).1 u.1 in
      omega (arith, a, b)

-- ---- the fraction
module _ (f : Format) (x : Float) (p : T (real f x)) (x0 : T (le plus_zero x)) (small : suc (floor_count x) ≤ 2 ^ prec f) (room : mag f x ≤ 18446744073709551615 * 2 ^ low f) where
  abbrev n : ℕ
  n = floor_count x

  n-small : n ≤ 2 ^ prec f
  n-small = omega (arith, small)

  floor-le : T (le (of_int f (pos n)) x)
  floor-le =
      key→le f (of_int f (pos n)) x (number-whole f n n-small) (real-number f x p) (omega (arith, key-whole f n n-small, size-nonneg f x p x0, (floor-in-units f x p x0 room).0))

  le_next : T (le x (of_int f (pos (suc n))))
  le_next =
      key→le f x (of_int f (pos (suc n))) (real-number f x p) (number-whole f (suc n) small)
      (omega (arith, key-whole f (suc n) small, size-nonneg f x p x0, (floor-in-units f x p x0 room).1))

  pub fraction-nonneg : T (le plus_zero (sub f x (of_int f (pos n))))
  fraction-nonneg = sub-nonneg f x (of_int f (pos n)) p (real-whole f n n-small) floor-le

  one_apart : sub f (of_int f (pos (suc n))) (of_int f (pos n)) ≡ one
  one_apart =
      whole_sub f (suc n) n small n-small (omega arith) ∙ ap (λ (k : ℕ). of_int f (pos k)) (difference n) ∙ whole-power f 0 zero-le
    where
      difference : (n : ℕ) → suc n - n ≡ 1
      difference n = omega arith

  pub fraction-at-most-one : T (le (sub f x (of_int f (pos n))) one)
  fraction-at-most-one =
      subst (λ (y : Float). T (le (sub f x (of_int f (pos n))) y)) one_apart
      (sub-mono f x (of_int f (pos (suc n))) (of_int f (pos n)) (of_int f (pos n)) p (real-whole f (suc n) small) (real-whole f n n-small) (real-whole f n n-small) le_next
      (whole-mono f n n (le_refl n) n-small))

  pub fraction-real : T (real f (sub f x (of_int f (pos n))))
  fraction-real =
      real-between f plus_zero (sub f x (of_int f (pos n))) one (sub_number f x (of_int f (pos n)) p (real-whole f n n-small)) (real-zero f false) (real-one f) fraction-nonneg
      fraction-at-most-one
