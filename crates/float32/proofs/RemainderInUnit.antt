-- The remainder by 1 of a finite value is in 0..1: `v % 1` is in -1..1, what is not below 0 stays,
-- and below 0 the sum with 1 lies between the rounded sums of -1 and 1 and of 0 and 1. Assumes
-- nothing.
use Rattle.std.proofs.Common.{◌≡◌, ℕ, ◌+◌, ◌-◌, ◌*◌, ◌%◌, ◌^◌, ◌<◌, ◌≤◌, Bool, true, false, cond, not, T, pos, sym, refl, ◌∙◌, le_trans, le_of_eq, le_of_lt, mod-lt, one-mul, mul-one, arith, lit<}
use lib.Count.{count_trailing_zeros}
use lib.Ieee.{Float, nan, inf, fin, Format, binary32, low, up, down, rem, round, units, odd, size, span, climb, add, sum, le, lt, fits, of_bits, of_fields}
use lib.Ieee.Scale.{overflow}
use lib.Ieee.Fits.{down_pos, and_i}
use Rattle.float_laws.specs.Units.{real, number, real-number, mag, key, keyed, key→le}
use Rattle.float_laws.specs.Round.{plus_zero, rnd, rnd-mono, rnd-exact, key-round, round_number, real-zero}
use Rattle.float_laws.specs.Order.{le-refl-f, lt→le-f, not-lt-f}
use Rattle.float_laws.specs.Mono.{add-mono}
use Rattle.float_laws.specs.Bounds.{one, real-one, mag-one, real-between}
use Rattle.float32.specs.Order.{within}
use Rattle.float32.specs.Remainder as remainder
use Rattle.float32.specs.Remainder.{rem_euclid_one}

abbrev minus_one : Float
minus_one = fin true 1 (pos 0)

-- a number from -1 to 1
record WithinOne (r : Float) : Type 0 where
  number-32 : T (number binary32 r)
  least : T (le minus_one r)
  most : T (le r one)

-- ---- a fraction of at most 1, of either sign, rounded
module _ (f : Format) (s : Bool) (a c : ℕ) (z : 0 < c) (h : a ≤ c) where
  size-at-most : rnd f a c ≤ mag f one
  size-at-most =
      le_trans (rnd-mono f a c 1 1 z (lit< tt) (omega arith))
      (le_of_eq (rnd-exact f one 1 1 (real-one f) (lit< tt) (one-mul (2 ^ low f) ∙ sym (mag-one f) ∙ sym (mul-one (mag f one)))))

  ends : (overflow f - mag f one ≤ keyed (overflow f) s (rnd f a c)) × (keyed (overflow f) s (rnd f a c) ≤ overflow f + mag f one)
  ends = go s
    where
      go : (t : Bool) → (overflow f - mag f one ≤ keyed (overflow f) t (rnd f a c)) × (keyed (overflow f) t (rnd f a c) ≤ overflow f + mag f one)
      go true = let w = size-at-most in ((omega arith), (omega arith))
      go false = let w = size-at-most in ((omega arith), (omega arith))

  least-key : key f minus_one ≤ key f (round f s a c)
  unfolding mag
  least-key = rw (key-round f s a c) ends.0

  most-key : key f (round f s a c) ≤ key f one
  most-key = rw (key-round f s a c) ends.1

-- ---- the exact remainder of a float by 1
minus-one-real : T (real binary32 minus_one)
unfolding fits
minus-one-real = tt

rounded-unit : (s : Bool) (a c : ℕ) → 0 < c → a ≤ c → WithinOne (round binary32 s a c)
rounded-unit s a c z h =
    let n = round_number binary32 s a c in
    record {
      number-32 = n;
      least = key→le binary32 minus_one (round binary32 s a c) (real-number binary32 minus_one minus-one-real) n (least-key binary32 s a c z h);
      most = key→le binary32 (round binary32 s a c) one n (real-number binary32 one (real-one binary32)) (most-key binary32 s a c z h);
    }

under_one : (a d : ℕ) → 0 < d → a % (1 * 1 * d) ≤ d * 1
under_one a d z = let e : 1 * 1 * d ≡ d = omega arith in rw (e, mul-one) (le_of_lt (mod-lt a z))

rem-unit : (v : Float) → T (real binary32 v) → WithinOne (rem binary32 v one)
unfolding rem
rem-unit nan p = absurd p
rem-unit (inf s) p = absurd p
rem-unit (fin s m e) p =
    let z = down_pos e in
    rounded-unit s (m * up e * 1 % (1 * 1 * down e)) (down e * 1) (rw mul-one z) (under_one (m * up e * 1) (down e) z)

-- ---- the sum with 1, where the remainder is below 0
sum-ends : (add binary32 minus_one one ≡ plus_zero) × (add binary32 plus_zero one ≡ one)
unfolding add sum round units odd size span climb count_trailing_zeros
sum-ends = (refl, refl)

module _ (r : Float) (u : WithinOne r) where
  o-number : T (number binary32 plus_zero)
  o-number = real-number binary32 plus_zero (real-zero binary32 false)

  same-one : T (le one one)
  same-one = le-refl-f binary32 one (real-number binary32 one (real-one binary32))

  real-32 : T (real binary32 r)
  real-32 = real-between binary32 minus_one r one u.number-32 minus-one-real (real-one binary32) u.least u.most

  sum-within : T (le r plus_zero) → T (within plus_zero one (add binary32 r one))
  unfolding within
  sum-within h =
      let low = add-mono binary32 minus_one r one one minus-one-real real-32 (real-one binary32) (real-one binary32) u.least same-one in
      let high = add-mono binary32 r plus_zero one one real-32 (real-zero binary32 false) (real-one binary32) (real-one binary32) h same-one in
      and_i (le plus_zero (add binary32 r one)) (le (add binary32 r one) one) (rw sum-ends.0 at low) (rw sum-ends.1 at high)

  result-within : T (within plus_zero one (cond (lt r plus_zero) (add binary32 r one) r))
  unfolding within
  result-within = go (lt r plus_zero) (lt→le-f binary32 r plus_zero u.number-32 o-number) (not-lt-f binary32 r plus_zero u.number-32 o-number)
    where
      go : (b : Bool) → (T b → T (le r plus_zero)) → (T (not b) → T (le plus_zero r)) → T (within plus_zero one (cond b (add binary32 r one) r))
      go true f g = sum-within (f tt)
      go false f g = and_i (le plus_zero r) (le r one) (g tt) u.most

pub remainder-in-unit : (v : Float) → T (real binary32 v) → T (within remainder.zero remainder.one (rem_euclid_one v))
unfolding rem_euclid_one of_bits of_fields odd count_trailing_zeros
remainder-in-unit v p = result-within (rem binary32 v one) (rem-unit v p)

-- and it can be 1: of -2 ^ -64, whose sum with 1 rounds to 1
pub remainder-one : rem_euclid_one (of_bits binary32 0x9f80_0000) ≡ remainder.one
unfolding rem_euclid_one rem lt add sum round units odd size span climb count_trailing_zeros of_bits of_fields
remainder-one = refl
