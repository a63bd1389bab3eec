-- A number from 0 up to 2 ^ (prec - 1), added to that power, is rounded to one of the two whole
-- numbers beside it: there the values of the format are the whole numbers.
-- Without the power it is the whole part, or one more, and then it is above the number. Assumes
-- nothing.
use Rattle.std.proofs.Common.{◌≡◌, ℕ, suc, ◌+◌, ◌-◌, ◌*◌, ◌/◌, ◌^◌, ◌<◌, ◌≤◌, Bool, false, T, pos, sym, refl, ap, ◌∙◌, subst, le_trans, le_of_eq, lt_of_le_of_lt, mul-le-mul_right, mod-lt, div-lt_iff_lt-mul, add-mul, lt_of_mul-lt-mul_right, div-add-mod', div-mul-le_self, le_of_mul-le-mul_right, arith, lit≤, pow_pos, pow-add}
use lib.Ieee.{Float, Format, binary32, binary64, prec, emax, low, round, add, sub, lt, of_int}
use lib.Ieee.Scale.{overflow}
use Rattle.float_laws.specs.Units.{real, number, real-number, real-of-size, mag, mag-below, sign, key, keyed, lt→key, key→lt, unique}
use Rattle.float_laws.specs.Round.{rnd, rnd-mono, rnd-held, held-real, mag-round, sign-round, round_number}
use Rattle.float_laws.specs.Ops.{add-sum, sum-clear}
use Rattle.float_laws.specs.Power.{power, mag-power, real-power}
use Rattle.float_laws.specs.Exact.{held_small, held-times, held-multiple, mag-whole, sign-whole, real-whole, whole_sub, whole-power}

-- 2 ^ (prec - 1)
abbrev pub half : Format → ℕ
half f = 2 ^ (prec f - 1)

pub doubled : (f : Format) → half f + half f ≡ 2 ^ prec f
doubled binary32 = refl
doubled binary64 = refl

pub in-exponents : (f : Format) → (prec f - 1 ≤ emax f) × (prec f - 1 ≤ prec f)
in-exponents binary32 = (lit≤ tt, lit≤ tt)
in-exponents binary64 = (lit≤ tt, lit≤ tt)

module _ (f : Format) (a : Float) (p : T (real f a)) (s : sign a ≡ false) (b : mag f a < half f * 2 ^ low f) where
  abbrev L : ℕ
  L = 2 ^ low f

  abbrev n : ℕ
  n = mag f a / L

  abbrev raised : ℕ
  raised = mag f a + half f * L

  n-below : n < half f
  n-below = (div-lt_iff_lt-mul (pow_pos (low f))).1 b

  n-least : n * L ≤ mag f a
  n-least = div-mul-le_self (mag f a) L

  n-most : mag f a < suc n * L
  n-most = let e = div-add-mod' (mag f a) L in let m = mod-lt (mag f a) (pow_pos (low f)) in let w : suc n * L ≡ n * L + L = omega arith in omega arith

  -- a whole number of units is rounded to itself
  whole-stays : (k : ℕ) → k ≤ 2 ^ prec f → rnd f (k * L) L ≡ k * L
  whole-stays k h =
      rnd-held f (k * L) (k * L) L (held-times f k (low f) (held_small f k h)) (subst (λ (z : ℕ). z < overflow f) (mag-whole f k h) (mag-below f (of_int f (pos k)) (real-whole f k h))) (pow_pos (low f)) refl

  room : half f + suc n ≤ 2 ^ prec f
  room = let h = n-below in let d = doubled f in omega arith

  low_end : (half f + n) * L ≤ rnd f raised L
  low_end =
      let w : (half f + n) * L ≤ raised = le_trans (le_of_eq (add-mul (half f) n L)) (let h = n-least in omega arith) in
      le_trans (le_of_eq (sym (whole-stays (half f + n) (let r = room in omega arith)))) (rnd-mono f ((half f + n) * L) L raised L (pow_pos (low f)) (pow_pos (low f)) (mul-le-mul_right L w))

  high_end : rnd f raised L ≤ (half f + suc n) * L
  high_end =
      let w : raised ≤ (half f + suc n) * L = le_trans (let h = n-most in omega arith) (le_of_eq (sym (add-mul (half f) (suc n) L))) in
      le_trans (rnd-mono f raised L ((half f + suc n) * L) L (pow_pos (low f)) (pow_pos (low f)) (mul-le-mul_right L w)) (le_of_eq (whole-stays (half f + suc n) room))

  sum_is : add f a (power (prec f - 1)) ≡ round f false raised L
  sum_is =
      add-sum f a (power (prec f - 1)) p (real-power f (prec f - 1) (in-exponents f).0)
      ∙ sum-clear f (sign a) false (mag f a) (mag f (power (prec f - 1))) L s refl
      ∙ ap (λ (z : ℕ). round f false (mag f a + z) L) (mag-power f (prec f - 1))

  sum-real : T (real f (round f false raised L))
  sum-real =
      real-of-size f (round f false raised L) (round_number f false raised L)
      (lt_of_le_of_lt (le_trans (le_of_eq (mag-round f false raised L)) high_end) (subst (λ (z : ℕ). z < overflow f) (mag-whole f (half f + suc n) room) (mag-below f (of_int f (pos (half f + suc n))) (real-whole f (half f + suc n) room))))

  multiple : (q : ℕ) × (mag f (round f false raised L) ≡ q * L)
  multiple =
      held-multiple f (mag f (round f false raised L)) (low f) (held-real f (round f false raised L) sum-real)
      (let d = doubled f in
      let e : 2 ^ (prec f + low f) ≡ 2 ^ prec f * L = pow-add 2 (prec f) (low f) in
      let g : 2 ^ prec f * L ≡ half f * L + half f * L = ap (λ (z : ℕ). z * L) (sym d) ∙ add-mul (half f) (half f) L in
      let h = low_end in
      let k = add-mul (half f) n L in
      let m = mag-round f false raised L in
      omega arith)

  abbrev q : ℕ
  q = multiple.0

  q-least : half f + n ≤ q
  q-least = le_of_mul-le-mul_right (le_trans low_end (le_of_eq (sym (mag-round f false raised L) ∙ multiple.1))) (pow_pos (low f))

  q-most : q ≤ half f + suc n
  q-most = le_of_mul-le-mul_right (le_trans (le_of_eq (sym multiple.1 ∙ mag-round f false raised L)) high_end) (pow_pos (low f))

  q_room : q ≤ 2 ^ prec f
  q_room = le_trans q-most room

  -- the sum is the whole number q, and less the power it is q - half
  nearest-whole : sub f (add f a (power (prec f - 1))) (power (prec f - 1)) ≡ of_int f (pos (q - half f))
  nearest-whole =
      let h : half f ≤ 2 ^ prec f = let d = doubled f in omega arith in
      ap (λ (z : Float). sub f z (power (prec f - 1)))
      (sum_is
      ∙ unique f (round f false raised L) (of_int f (pos q)) (round_number f false raised L) (real-number f (of_int f (pos q)) (real-whole f q q_room))
      (sign-round f false raised L ∙ sym (sign-whole f q q_room))
      (multiple.1 ∙ sym (mag-whole f q q_room)))
      ∙ ap (λ (z : Float). sub f (of_int f (pos q)) z) (sym (whole-power f (prec f - 1) (in-exponents f).1))
      ∙ whole_sub f q (half f) q_room h (let l = q-least in omega arith)

  j-room : q - half f ≤ 2 ^ prec f
  j-room = let h = q_room in omega arith

  abbrev nearest : Float
  nearest = sub f (add f a (power (prec f - 1))) (power (prec f - 1))

  key-nearest : key f nearest ≡ overflow f + (q - half f) * L
  key-nearest = ap (key f) nearest-whole ∙ ap (λ (t : Bool). keyed (overflow f) t (mag f (of_int f (pos (q - half f))))) (sign-whole f (q - half f) j-room) ∙ ap (λ (z : ℕ). overflow f + z) (mag-whole f (q - half f) j-room)

  key-a : key f a ≡ overflow f + mag f a
  key-a = ap (λ (t : Bool). keyed (overflow f) t (mag f a)) s

  nearest-number : T (number f nearest)
  nearest-number = subst (λ (z : Float). T (number f z)) (sym nearest-whole) (real-number f (of_int f (pos (q - half f))) (real-whole f (q - half f) j-room))

  pub whole_above : T (lt a nearest) → sub f nearest (power 0) ≡ of_int f (pos n)
  whole_above h =
      let k = lt→key f a nearest (real-number f a p) nearest-number h in
      let l : n * L < (q - half f) * L = let x = n-least in let y = key-nearest in let z = key-a in omega arith in
      let m : n < q - half f = lt_of_mul-lt-mul_right L l in
      let e : q - half f - 1 ≡ n = let x = q-most in omega arith in
      ap (λ (z : Float). sub f z (power 0)) nearest-whole
      ∙ ap (λ (z : Float). sub f (of_int f (pos (q - half f))) z) (sym (whole-power f 0 (omega arith)))
      ∙ whole_sub f (q - half f) 1 j-room (pow_pos (prec f)) (omega arith)
      ∙ ap (λ (z : ℕ). of_int f (pos z)) e

  pub whole_below : (T (lt a nearest) → ⊥) → nearest ≡ of_int f (pos n)
  whole_below h =
      let k : ¬ (key f a < key f nearest) = λ l. h (key→lt f a nearest (real-number f a p) nearest-number l) in
      let l : (q - half f) * L ≤ mag f a = let y = key-nearest in let z = key-a in omega arith in
      let m : q - half f < suc n = lt_of_mul-lt-mul_right L (lt_of_le_of_lt l n-most) in
      let e : q - half f ≡ n = let x = q-least in omega arith in
      nearest-whole ∙ ap (λ (z : ℕ). of_int f (pos z)) e
