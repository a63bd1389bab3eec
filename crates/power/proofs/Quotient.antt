-- The place within a step by one quotient of f64's. For 0 < x ≤ d ≤ 2 ^ 30 and n = floor
-- ((x * 2 ^ low_bits - 1) / d) the quotient x / d is at most (n + 1) / 2 ^ low_bits, and above
-- n / 2 ^ low_bits by 2 ^ -46 or more. Both bounds are values of f64, so the rounded quotient keeps
-- to them, and what it leaves of 6, in the steps of 2 ^ -50 that f64 has there, begins with the
-- digits of 2 ^ (low_bits + 1) - (n + 1).
-- Assumes nothing.
use mathlib.Core.Path.{◌≡◌, refl, sym, ap, ◌∙◌}
use mathlib.Core.Bool.{Bool, true, false, not, cond}
use Prim.Native.Nat.{ℕ, suc, ◌+◌, ◌-◌, ◌*◌, ◌/◌, ◌%◌, ◌^◌, ◌≤◌, ◌<◌}
use native.Mathlib.Nat.{le_trans, le_of_eq, lt_of_le_of_lt, mul-pos, mul_assoc, mul_comm, mul_right_comm, add-mul, suc-mul, mul-le-mul_right, mul-div-le, div-lt_iff_lt-mul, le-div_iff_mul-le}
use native.Mathlib.Omega.{arith}
use lib.Dec.{T, lit<, lit≤}
use lib.Bits.{bit_and, and_mask}
use lib.IntN.{pos}
use lib.Pow.{pow_pos, pow-add}
use lib.Ieee.{Float, fin, Format, binary64, low, prec, fits, is_nan, unlike, neg, lt, add, sub, div, of_int, to_bits}
use lib.Ieee.Scale.{overflow}
use Rattle.float_laws.specs.Units.{mag, sign, real, key, real-number, real-of-size}
use Rattle.float_laws.specs.Round.{rnd, rnd-mono, rnd-same, rnd-held, mag-round, mag-neg}
use Rattle.float_laws.specs.Ops.{div-round, div-sign}
use Rattle.float_laws.specs.Mono.{div-number, real-neg}
use Rattle.float_laws.specs.Exact.{held_small, held-times, mag-whole, sign-whole, real-whole, sign-neg}
use Rattle.float_laws.specs.Signs.{sub-mul}
use Rattle.float_laws.specs.Steps.{signed-real, signed-floor, number-no-nan}
use Rattle.power.specs.Table.{low_bits}

abbrev f : Format
f = binary64

abbrev pub six : Float
six = fin false 3 (pos 1)

six-real : T (real f six)
unfolding fits
six-real = tt

-- 6 is 3 * 2 ^ 51 steps of 2 ^ -50, which are 2 ^ 1024 units of f64's smallest value
six-key : key f six ≡ overflow f + 3 * 2 ^ 51 * 2 ^ 1024
unfolding mag
six-key = refl

-- ---- A / 2 ^ 50 is a value, for an A of up to 2 ^ 50
held_at : (A : ℕ) → A ≤ 2 ^ 50 → rnd f A (2 ^ 50) ≡ A * 2 ^ 1024
held_at A h =
    rnd-held f (A * 2 ^ 1024) A (2 ^ 50) (held-times f A 1024 (held_small f A (le_trans h (lit≤ tt)))) (lt_of_le_of_lt (mul-le-mul_right (2 ^ 1024) h) (lit< tt)) (pow_pos 50)
    (ap (λ (z : ℕ). A * z) (pow-add 2 1024 50) ∙ sym (mul_assoc A (2 ^ 1024) (2 ^ 50)))

-- ---- what a leaves of M steps of u, where a is between two numbers of steps
left-from : (M B u a : ℕ) → 0 < u → a ≤ B * u → M - B ≤ (M * u - a) / u
left-from M B u a U h = (le-div_iff_mul-le U).1 (omega (arith, sub-mul M B u))

left-to : (M A u a : ℕ) → 0 < u → A * u ≤ a → (M * u - a) / u ≤ M - A
left-to M A u a U h = le-of-next ((div-lt_iff_lt-mul U).1 (omega (arith, sub-mul M A u, suc-mul (M - A) u)))
  where
    le-of-next : {p q : ℕ} → p < suc q → p ≤ q
    le-of-next l = omega arith

module _ (x d : ℕ) (some : 0 < x) (inside : x ≤ d) (wide : d ≤ 2 ^ 30) where
  abbrev n : ℕ
  n = (x * 2 ^ low_bits - 1) / d

  d-pos : 0 < d
  d-pos = omega arith

  from : n * d + 1 ≤ x * 2 ^ low_bits
  from = let u = mul-div-le (x * 2 ^ low_bits - 1) d in let v = mul_comm d n in omega arith

  to : x * 2 ^ low_bits ≤ suc n * d
  to = let u = (div-lt_iff_lt-mul {k = d} {x = x * 2 ^ low_bits - 1} {y = suc n} d-pos).0 (self n) in omega arith
    where
      self : (n : ℕ) → n < suc n
      self n = omega arith

  n-lt : n < 2 ^ low_bits
  n-lt = (div-lt_iff_lt-mul {k = d} {x = x * 2 ^ low_bits - 1} {y = 2 ^ low_bits} d-pos).1 (omega arith)

  -- ---- the quotient
  abbrev X : Float
  X = of_int f (pos x)

  abbrev D : Float
  D = of_int f (pos d)

  abbrev pub part : Float
  part = div f X D

  x-small : x ≤ 2 ^ prec f
  x-small = omega arith

  d_small : d ≤ 2 ^ prec f
  d_small = omega arith

  X-real : T (real f X)
  X-real = real-whole f x x-small

  D-real : T (real f D)
  D-real = real-whole f d d_small

  D-size : 0 < mag f D
  D-size = rw (mag-whole f d d_small) (mul-pos d-pos (pow_pos (low f)))

  part-sign : sign part ≡ false
  part-sign = div-sign f X D X-real D-real D-size ∙ rw (sign-whole f x x-small, sign-whole f d d_small) refl

  part-size : mag f part ≡ rnd f x d
  part-size =
      ap (mag f) (div-round f X D X-real D-real D-size) ∙ mag-round f (unlike (sign X) (sign D)) (mag f X) (mag f D)
      ∙ rnd-same f (mag f X) (mag f D) x d D-size d-pos
      (ap (λ (z : ℕ). z * d) (mag-whole f x x-small) ∙ mul_right_comm x (2 ^ low f) d ∙ mul_assoc x d (2 ^ low f) ∙ ap (λ (z : ℕ). x * z) (sym (mag-whole f d d_small)))

  at_most : mag f part ≤ suc n * 2 ^ (50 - low_bits) * 2 ^ 1024
  at_most =
      let l = n-lt in
      le_trans (le_of_eq part-size)
      (le_trans (rnd-mono f x d (suc n * 2 ^ (50 - low_bits)) (2 ^ 50) d-pos (pow_pos 50) (scaled x d n to)) (le_of_eq (held_at (suc n * 2 ^ (50 - low_bits)) (omega arith))))
    where
      scaled : (x d n : ℕ) → x * 2 ^ low_bits ≤ suc n * d → x * 2 ^ 50 ≤ suc n * 2 ^ (50 - low_bits) * d
      scaled x d n h = let e = mul_right_comm (suc n) (2 ^ (50 - low_bits)) d in omega arith

  at_least : (n * 2 ^ (50 - low_bits) + 16) * 2 ^ 1024 ≤ mag f part
  at_least =
      let l = n-lt in
      le_trans (le_of_eq (sym (held_at (n * 2 ^ (50 - low_bits) + 16) (omega arith))))
      (le_trans (rnd-mono f (n * 2 ^ (50 - low_bits) + 16) (2 ^ 50) x d (pow_pos 50) d-pos (scaled x d n from wide)) (le_of_eq (sym part-size)))
    where
      scaled : (x d n : ℕ) → n * d + 1 ≤ x * 2 ^ low_bits → d ≤ 2 ^ 30 → (n * 2 ^ (50 - low_bits) + 16) * d ≤ x * 2 ^ 50
      scaled x d n h w = let e = mul_right_comm n (2 ^ (50 - low_bits)) d in let g = add-mul (n * 2 ^ (50 - low_bits)) 16 d in omega arith

  size_is : mag f part ≤ 2 ^ 50 * 2 ^ 1024
  size_is = le_trans at_most (mul-le-mul_right (2 ^ 1024) (room n n-lt))
    where
      room : (n : ℕ) → n < 2 ^ low_bits → suc n * 2 ^ (50 - low_bits) ≤ 2 ^ 50
      room n l = omega arith

  part-real : T (real f part)
  part-real = real-of-size f part (div-number f X D X-real D-real D-size) (lt_of_le_of_lt size_is (lit< tt))

  -- ---- what it leaves of 6
  abbrev pub left : Float
  left = add f (neg part) six

  neg-size : mag f (neg part) ≤ 2 ^ 50 * 2 ^ 1024
  neg-size = rw (mag-neg f part) size_is

  pub left-no-nan : T (not (is_nan left))
  left-no-nan =
      number-no-nan f left
      (real-number f left (signed-real f (neg part) six 1024 (3 * 2 ^ 51) (2 ^ 50) (real-neg f part part-real) six-real six-key neg-size (lit≤ tt) (lit≤ tt) (lit≤ tt)))

  abbrev rest : ℕ
  rest = (3 * 2 ^ 51 * 2 ^ 1024 - mag f part) / 2 ^ 1024

  abbrev bit : Bool → ℕ
  bit b = cond b 1 0

  digits_are : to_bits f left % 2 ^ 52 ≡ rest - 2 ^ 52 + bit (lt (neg part) (sub f left six))
  digits_are =
      signed-floor f (neg part) six 1024 (3 * 2 ^ 51) (2 ^ 50) (real-neg f part part-real) six-real six-key neg-size (lit≤ tt) (lit≤ tt) (lit≤ tt)
      ∙ rw (sign-neg f part part-real, part-sign, mag-neg f part) refl

  counted : bit_and (to_bits f left) (2 ^ 52 - 1) / 2 ^ (50 - low_bits) ≡ 2 ^ (low_bits + 1) - suc n
  counted =
      ap (λ (z : ℕ). z / 2 ^ (50 - low_bits)) (and_mask (to_bits f left) 52 ∙ digits_are)
      ∙ go (lt (neg part) (sub f left six)) rest n n-lt (left-from (3 * 2 ^ 51) (suc n * 2 ^ (50 - low_bits)) (2 ^ 1024) (mag f part) (pow_pos 1024) at_most)
      (left-to (3 * 2 ^ 51) (n * 2 ^ (50 - low_bits) + 16) (2 ^ 1024) (mag f part) (pow_pos 1024) at_least)
    where
      go : (b : Bool) (r n : ℕ) → n < 2 ^ low_bits → 3 * 2 ^ 51 - suc n * 2 ^ (50 - low_bits) ≤ r → r ≤ 3 * 2 ^ 51 - (n * 2 ^ (50 - low_bits) + 16) → (r - 2 ^ 52 + bit b) / 2 ^ (50 - low_bits) ≡ 2 ^ (low_bits + 1) - suc n
      go true r n l g h = omega arith
      go false r n l g h = omega arith

  pub left-fits : bit_and (to_bits f left) (2 ^ 52 - 1) / 2 ^ (50 - low_bits) ≤ 2 ^ (low_bits + 1) - 1
  left-fits = rw counted (omega arith)

  pub placed : 2 ^ (low_bits + 1) - 1 - bit_and (to_bits f left) (2 ^ 52 - 1) / 2 ^ (50 - low_bits) ≡ (x * 2 ^ low_bits - 1) / d
  placed = rw counted (back n n-lt)
    where
      back : (n : ℕ) → n < 2 ^ low_bits → 2 ^ (low_bits + 1) - 1 - (2 ^ (low_bits + 1) - suc n) ≡ n
      back n l = omega arith
