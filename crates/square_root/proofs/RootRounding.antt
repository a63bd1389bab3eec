-- The root of digits * 4 ^ fours rounded to an f32: it keeps the whole number nearest to the root
-- of the digits, and drops `fours` places. So the code's bits are those of the definition's value.
-- Assumes nothing.
use mathlib.Core.Path.{◌≡◌, refl, sym, ap, ◌∙◌, subst}
use mathlib.Core.Bool.{Bool, false, not, cond}
use Prim.Native.Nat.{ℕ, zero, suc, ◌+◌, ◌-◌, ◌*◌, ◌/◌, ◌%◌, ◌^◌, ◌≤◌, ◌<◌, compare, Ordering}
use native.Mathlib.Nat.{mul_assoc, mul-mul-mul_comm, mul-suc, mul-pos, le_refl, le_trans, le_of_eq, le_of_lt, lt_of_le_of_lt, lt_of_lt_of_le, mul-le-mul, mul-le-mul_right, mul-lt-mul_of_pos_right, div-mul-le_self, div-lt_iff_lt-mul, le_of_mul-le-mul_right, lt_of_mul-lt-mul_right, eq_of_mul-eq-mul_right, not-le_of_lt}
use native.Mathlib.Decide.{dec_le}
use native.Mathlib.Omega.{arith}
use lib.Dec.{T, ltb, lt→ltb}
use lib.Pow.{pow_pos, pow-add, pow_mono, shl_lt}
use lib.Ieee.{inf, Format, binary32, prec, size, nearest, units, odd, of_bits, nan_bits, fits}
use lib.Ieee.Digits.{size-lt, size-le}
use lib.Ieee.Bits.{is_true}
use lib.Ieee.Exact.{odd_sign}
use lib.Ieee.Fits.{odd-fits}
use Rattle.float_laws.specs.Units.{mag, number, unique}
use Rattle.float_laws.specs.Order.{fits-number}
use Rattle.float_laws.specs.Round.{odd-kind, mag-of-value}
use Rattle.float_laws.specs.Error.{Cmp, cmp}
use Rattle.square_root.specs.Root.{IsRoot, IsNearestRoot, whole_root, nearest_root}
use Rattle.square_root.proofs.WholeRoot.{at-most-root, above_root, square-of-next, square-of-odd, four-is-square, whole-root-is}
use Rattle.float32.proofs.Made.{made, made-no-nan}

-- ---- the parts of `nearest_root`: the places dropped, the digits above them, and those digits
-- rounded
abbrev pub dropped : Format → ℕ → ℕ
dropped f N = size (whole_root N) - prec f

abbrev pub leading : Format → ℕ → ℕ
leading f N = whole_root N / 2 ^ dropped f N

abbrev pub kept : Format → ℕ → ℕ
kept f N = nearest (leading f N) (compare (4 * N) ((2 * leading f N + 1) * (2 * leading f N + 1) * 4 ^ dropped f N))

pub nearest-root-is : (f : Format) (N : ℕ) → nearest_root f N ≡ units f false (kept f N) (dropped f N)
unfolding nearest_root
nearest-root-is f N = refl

-- ---- the root lies between its leading digits and the next number up
pub record Between (N W q : ℕ) : Type 0 where
  pub under : q * q * W ≤ N
  pub over : N < suc q * suc q * W

pub square-scaled : (z k : ℕ) → z * 2 ^ k * (z * 2 ^ k) ≡ z * z * 4 ^ k
square-scaled z k = mul-mul-mul_comm z (2 ^ k) z (2 ^ k) ∙ ap (λ (w : ℕ). z * z * w) (sym (four-is-square k))

between : (N r k : ℕ) → IsRoot N r → Between N (4 ^ k) (r / 2 ^ k)
between N r k i =
    let d = 2 ^ k in
    let q = r / d in
    let a : q * d ≤ r = div-mul-le_self r d in
    let b : suc r ≤ suc q * d = (div-lt_iff_lt-mul (pow_pos k)).0 (le_refl (suc q)) in
    record {
      under = le_trans (le_of_eq (sym (square-scaled q k))) (le_trans (mul-le-mul a a) i.under);
      over = lt_of_lt_of_le i.over (le_trans (mul-le-mul b b) (le_of_eq (square-scaled (suc q) k)));
    }

pub leading-between : (f : Format) (N : ℕ) → Between N (4 ^ dropped f N) (leading f N)
leading-between f N = between N (whole_root N) (dropped f N) (whole-root-is N)

-- ---- the nearest whole number
next-product : (u : ℕ) → u * suc u ≡ u * u + u
next-product u = let a = mul-suc u u in omega arith

not-above : (n v w : ℕ) → IsNearestRoot n v → IsNearestRoot n w → w ≤ v
not-above n v zero i j = omega arith
not-above n v (suc u) i j = elim (dec_le v u) [ yes l ↦ absurd (omega (arith, i.over, j.under, next-product u, next-product v, square-of-next u, mul-le-mul l (suc-le l))) | no g ↦ omega arith ]
  where
    suc-le : v ≤ u → suc v ≤ suc u
    suc-le h = omega arith

nearest-unique : (n v w : ℕ) → IsNearestRoot n v → IsNearestRoot n w → w ≡ v
nearest-unique n v w i j = let a = not-above n v w i j in let b = not-above n w v j i in omega arith

pub whole-is-nearest : (n q : ℕ) → 0 < n → IsRoot n q → n ≤ q * q + q → IsNearestRoot n q
whole-is-nearest n q p i h = let a : 1 ≤ q = at-most-root n q 1 i p in record { under = omega (arith, i.under); over = h }

next-is-nearest : (n q : ℕ) → IsRoot n q → q * q + q < n → IsNearestRoot n (suc q)
next-is-nearest n q i h = let s = square-of-next q in record { under = omega arith; over = omega (arith, i.over) }

rounded : (A W q : ℕ) → 0 < A → 0 < W → (c : Ordering) → Cmp c (4 * (A * W)) ((2 * q + 1) * (2 * q + 1) * W) → IsRoot A q → IsNearestRoot A (nearest q c)
rounded A W q p z Ordering.lt h i =
    let l : 4 * A < (2 * q + 1) * (2 * q + 1) = lt_of_mul-lt-mul_right W (lt_of_le_of_lt (le_of_eq (mul_assoc 4 A W)) h) in
    whole-is-nearest A q p i (omega (arith, square-of-odd q))
rounded A W q p z Ordering.gt h i =
    let l : (2 * q + 1) * (2 * q + 1) < 4 * A = lt_of_mul-lt-mul_right W (lt_of_lt_of_le h (le_of_eq (sym (mul_assoc 4 A W)))) in
    next-is-nearest A q i (omega (arith, square-of-odd q))
rounded A W q p z Ordering.eq h i =
    let e : 4 * A ≡ (2 * q + 1) * (2 * q + 1) = eq_of_mul-eq-mul_right W z (4 * A) ((2 * q + 1) * (2 * q + 1)) (mul_assoc 4 A W ∙ h) in
    absurd (omega (arith, square-of-odd q))

-- ---- a number by its digits A and a power of four
size_is : (n j : ℕ) → 2 ^ j ≤ n → n < 2 ^ suc j → size n ≡ suc j
size_is n j h k =
    let a = size-le n (suc j) k in
    elim (dec_le (size n) j) [
      | yes g ↦ absurd (not-le_of_lt (lt_of_lt_of_le (size-lt n) (pow_mono g)) h)
      | no g ↦ omega arith
    ]

square-power : (j i : ℕ) → 2 ^ (j + i) * 2 ^ (j + i) ≡ 4 ^ j * 4 ^ i
square-power j i = ap (λ (z : ℕ). z * z) (pow-add 2 j i) ∙ square-scaled (2 ^ j) i ∙ ap (λ (z : ℕ). z * 4 ^ i) (sym (four-is-square j))

four-pos : (i : ℕ) → 0 < 4 ^ i
four-pos i = subst (λ (z : ℕ). 0 < z) (sym (four-is-square i)) (mul-pos (pow_pos i) (pow_pos i))

module _ (A i v : ℕ) (least : 70368744177664 ≤ A) (most : A ≤ 281474959933440) (near : IsNearestRoot A v) where
  below : A < 281474976710656
  below = omega (arith, most)

  places : size (whole_root (A * 4 ^ i)) ≡ 24 + i
  places =
      let s = whole_root (A * 4 ^ i) in
      let r = whole-root-is (A * 4 ^ i) in
      let lo : 2 ^ (23 + i) ≤ s = at-most-root (A * 4 ^ i) s (2 ^ (23 + i)) r (le_trans (le_of_eq (square-power 23 i)) (mul-le-mul_right (4 ^ i) least)) in
      let hi : s < 2 ^ (24 + i) = above_root (A * 4 ^ i) s (2 ^ (24 + i)) r (lt_of_lt_of_le (mul-lt-mul_of_pos_right below (four-pos i)) (le_of_eq (sym (square-power 24 i)))) in
      let e : suc (23 + i) ≡ 24 + i = omega arith in
      size_is s (23 + i) lo (subst (λ (z : ℕ). s < 2 ^ z) (sym e) hi) ∙ e

  dropped-is : dropped binary32 (A * 4 ^ i) ≡ i
  dropped-is = omega (arith, places)

  leading-root : IsRoot A (whole_root (A * 4 ^ i) / 2 ^ i)
  leading-root = let b = between (A * 4 ^ i) (whole_root (A * 4 ^ i)) i (whole-root-is (A * 4 ^ i)) in record { under = le_of_mul-le-mul_right b.under (four-pos i); over = lt_of_mul-lt-mul_right (4 ^ i) b.over }

  kept-is : kept binary32 (A * 4 ^ i) ≡ v
  kept-is =
      let N = A * 4 ^ i in
      let s = whole_root N in
      let q = s / 2 ^ i in
      let c = (2 * q + 1) * (2 * q + 1) * 4 ^ i in
      ap (λ (k : ℕ). nearest (s / 2 ^ k) (compare (4 * N) ((2 * (s / 2 ^ k) + 1) * (2 * (s / 2 ^ k) + 1) * 4 ^ k))) dropped-is
      ∙ nearest-unique A v (nearest q (compare (4 * N) c)) near (rounded A (4 ^ i) q (omega (arith, least)) (four-pos i) (compare (4 * N) c) (cmp (4 * N) c) leading-root)

  rounds-to : nearest_root binary32 (A * 4 ^ i) ≡ units binary32 false v i
  rounds-to = nearest-root-is binary32 (A * 4 ^ i) ∙ ap (λ (k : ℕ). units binary32 false (kept binary32 (A * 4 ^ i)) k) dropped-is ∙ ap (λ (z : ℕ). units binary32 false z i) kept-is

  -- ---- the number kept has 24 places
  kept-least : 8388608 ≤ v
  kept-least = elim (dec_le 8388608 v) [ yes l ↦ l | no g ↦ let h : v ≤ 8388607 = omega arith in absurd (omega (arith, least, near.over, mul-le-mul h h)) ]

  pub kept-most : v < 16777216
  kept-most = elim (dec_le 16777216 v) [ no g ↦ omega arith | yes l ↦ absurd (large v l near.under) ]
    where
      large : (w : ℕ) → 16777216 ≤ w → w * w < A + w → ⊥
      large zero h k = omega arith
      large (suc u) h k = let a : 16777215 ≤ u = omega arith in omega (arith, most, square-of-next u, mul-le-mul a a)

  module _ (few : i ≤ 189) where
    in-range : v * 2 ^ i < 2 ^ 277
    in-range = lt_of_lt_of_le (shl_lt 24 i kept-most) (pow_mono {i = 24 + i} {j = 277} (omega (arith, few)))

    units-is : units binary32 false v i ≡ odd 25 false v i 149
    unfolding units
    units-is = ap (λ (b : Bool). cond b (odd 25 false v i 149) (inf false)) (is_true (ltb (v * 2 ^ i) (2 ^ 277)) (lt→ltb (v * 2 ^ i) (2 ^ 277) in-range))

    odd-held : (d : ℕ) → v < 2 ^ d → T (fits binary32 (odd d false v i 149))
    odd-held d h = odd-fits binary32 d false v i h (le_of_lt kept-most) in-range

    odd_number : (d : ℕ) → v < 2 ^ d → T (number binary32 (odd d false v i 149))
    odd_number d h = fits-number binary32 (odd d false v i 149) (odd-held d h) (odd-kind d false v i 149).1

    odd-mag : (d : ℕ) → v < 2 ^ d → mag binary32 (odd d false v i 149) ≡ v * 2 ^ i
    odd-mag d h =
        eq_of_mul-eq-mul_right (2 ^ 149) (pow_pos 149) (mag binary32 (odd d false v i 149)) (v * 2 ^ i)
        (mag-of-value binary32 (odd d false v i 149) false (v * 2 ^ i) (2 ^ 149) (odd-held d h) (odd_sign d false v i 149))

    same-value : odd 24 false v i 149 ≡ odd 25 false v i 149
    same-value =
        let h : v < 16777216 = kept-most in
        let k : v < 33554432 = omega (arith, kept-most) in
        unique binary32 (odd 24 false v i 149) (odd 25 false v i 149) (odd_number 24 h) (odd_number 25 k) ((odd-kind 24 false v i 149).0 ∙ sym (odd-kind 25 false v i 149).0) (odd-mag 24 h ∙ sym (odd-mag 25 k))

    shifted : i * 8388608 % 4294967296 ≡ i * 8388608
    shifted = omega (arith, few)

    pub bits_fit : i * 8388608 % 4294967296 + v < 4294967296
    bits_fit = omega (arith, few, kept-most)

    pub bits-no-nan : T (not (nan_bits binary32 (i * 8388608 % 4294967296 + v)))
    bits-no-nan = rw shifted (made-no-nan i v (omega (arith, few)) kept-least kept-most)

    pub bits_are : of_bits binary32 (i * 8388608 % 4294967296 + v) ≡ nearest_root binary32 (A * 4 ^ i)
    bits_are = rw shifted (made i v (omega (arith, few)) kept-least kept-most ∙ same-value ∙ sym units-is ∙ sym rounds-to)
