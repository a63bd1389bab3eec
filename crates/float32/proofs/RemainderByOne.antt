-- `rem_euclid_one` is the definition, arm by arm: the laws of the whole part and of the remainder
-- in units, for f32 and the code's own constants. Assumes nothing.
use Rattle.std.proofs.Common.{◌≡◌, ℕ, ◌+◌, ◌-◌, ◌*◌, ◌/◌, ◌^◌, ◌<◌, ◌≤◌, Bool, true, false, T, pos, sym, refl, ap, ◌∙◌, subst, le_trans, le_of_eq, lt_of_le_of_lt, arith}
use lib.Count.{count_trailing_zeros}
use lib.Ieee.{Float, nan, inf, fin, Format, binary32, prec, low, fits, neg, add, sub, mul, lt, rem, of_int, of_bits, of_fields, odd}
use lib.Ieee.Scale.{overflow}
use Rattle.float_laws.specs.Units.{real, number, real-number, real-of-size, mag, mag-below, sign, key, lt→key, key→lt}
use Rattle.float_laws.specs.Round.{plus_zero}
use Rattle.float_laws.specs.Power.{power, mag-power, real-power}
use Rattle.float32.specs.Order.{magnitude}
use Rattle.float32.specs.Remainder as remainder
use Rattle.float32.specs.Remainder.{rem_euclid_one, whole_part, all_whole}
use Rattle.float32.proofs.Magnitude.{magnitude-clear, magnitude-size, magnitude-is-real, magnitude-fits}
use Rattle.float32.proofs.WholePart.{half, in-exponents, whole_above, whole_below}
use Rattle.float32.proofs.Remainders.{euclid, part, nothing_left, all_whole_lem, no_part, left_below, left-above, size-less-whole}

-- ---- the code's constants
constants : (all_whole ≡ power 23) × (remainder.one ≡ power 0) × (remainder.zero ≡ plus_zero)
unfolding of_bits of_fields odd count_trailing_zeros
constants = (refl, refl, refl)

holds : {b : Bool} → b ≡ true → T b
holds e = subst T (sym e) tt

fails : {b : Bool} → b ≡ false → T b → ⊥
fails e t = subst T e t

-- ---- below 2 ^ (prec - 1), as a comparison and in units
lt-number : (f : Format) (x y : Float) → T (fits f x) → T (lt x y) → T (number f x)
unfolding lt
lt-number f nan y g h = absurd h
lt-number f (inf s) y g h = tt
lt-number f (fin s m e) y g h = g

module _ (f : Format) (a : Float) (s : sign a ≡ false) where
  key-clear : key f a ≡ overflow f + mag f a
  key-clear = rw s refl

  key-limit : key f (power (prec f - 1)) ≡ overflow f + half f * 2 ^ low f
  key-limit = ap (λ (z : ℕ). overflow f + z) (mag-power f (prec f - 1))

  limit-number : T (number f (power (prec f - 1)))
  limit-number = real-number f (power (prec f - 1)) (real-power f (prec f - 1) (in-exponents f).0)

  under : T (number f a) → T (lt a (power (prec f - 1))) → mag f a < half f * 2 ^ low f
  under n h = omega (arith, key-clear, key-limit, lt→key f a (power (prec f - 1)) n limit-number h)

  not-under : T (number f a) → (T (lt a (power (prec f - 1))) → ⊥) → half f * 2 ^ low f ≤ mag f a
  not-under n h =
      let k : ¬ (key f a < key f (power (prec f - 1))) = λ l. h (key→lt f a (power (prec f - 1)) n limit-number l) in
      omega (arith, key-clear, key-limit)

  real-under : T (number f a) → T (lt a (power (prec f - 1))) → T (real f a)
  real-under n h = real-of-size f a n (omega (arith, under n h, mag-power f (prec f - 1), mag-below f (power (prec f - 1)) (real-power f (prec f - 1) (in-exponents f).0)))

-- ---- `whole_part`
module _ (size : Float) (g : T (fits binary32 size)) (s : sign size ≡ false) (h : T (lt size all_whole)) where
  abbrev nearest : Float
  nearest = sub binary32 (add binary32 size all_whole) all_whole

  size_number : T (number binary32 size)
  size_number = lt-number binary32 size all_whole g h

  below : T (lt size (power 23))
  below = rw constants.0 at h

  pub cut-above : lt size nearest ≡ true → sub binary32 nearest remainder.one ≡ whole_part size
  unfolding whole_part
  cut-above e =
      rw (constants.1, constants.0)
      (whole_above binary32 size (real-under binary32 size s size_number below) s (under binary32 size s size_number below) (rw constants.0 at (holds e)))

  pub cut_below : lt size nearest ≡ false → nearest ≡ whole_part size
  unfolding whole_part
  cut_below e =
      rw constants.0
      (whole_below binary32 size (real-under binary32 size s size_number below) s (under binary32 size s size_number below) (rw constants.0 at (fails e)))

-- ---- `rem_euclid_one`
is-euclid : (v : Float) → euclid binary32 v ≡ rem_euclid_one v
unfolding rem_euclid_one of_bits of_fields odd count_trailing_zeros
is-euclid v = refl

-- of NaN and the infinities NaN
not_finite : (v : Float) → (T (real binary32 v) → ⊥) → T (fits binary32 v) → mul binary32 v plus_zero ≡ rem_euclid_one v
unfolding mul rem_euclid_one rem lt
not_finite nan h g = refl
not_finite (inf s) h g = refl
not_finite (fin s m e) h g = absurd (h g)

-- a number that is whole because of its size
large : (v : Float) → T (real binary32 v) → (T (lt (magnitude v) (power 23)) → ⊥) → mul binary32 v plus_zero ≡ rem_euclid_one v
large v p h =
    let n = real-number binary32 (magnitude v) (magnitude-is-real binary32 v p) in
    nothing_left binary32 v p (all_whole_lem binary32 v p (le_trans (not-under binary32 (magnitude v) (magnitude-clear v) n h) (le_of_eq (magnitude-size binary32 v)))) ∙ is-euclid v

whole-or-not : (v : Float) → T (fits binary32 v) → (T (lt (magnitude v) (power 23)) → ⊥) → mul binary32 v plus_zero ≡ rem_euclid_one v
whole-or-not nan g h = not_finite nan (λ p. p) g
whole-or-not (inf s) g h = not_finite (inf s) (λ p. p) g
whole-or-not (fin s m e) g h = large (fin s m e) g h

real-of-magnitude : (v : Float) → T (fits binary32 v) → T (real binary32 (magnitude v)) → T (real binary32 v)
unfolding magnitude
real-of-magnitude nan g h = h
real-of-magnitude (inf s) g h = h
real-of-magnitude (fin s m e) g h = g

module _ (v : Float) (g : T (fits binary32 v)) where
  abbrev size : Float
  size = magnitude v

  pub no_fraction : lt size all_whole ≡ false → mul binary32 v remainder.zero ≡ rem_euclid_one v
  no_fraction e = rw constants.2 (whole-or-not v g (rw constants.0 at (fails e)))

  module _ (e : lt size all_whole ≡ true) where
    below-23 : T (lt size (power 23))
    below-23 = rw constants.0 at (holds e)

    number-23 : T (number binary32 size)
    number-23 = lt-number binary32 size (power 23) (magnitude-fits binary32 v g) below-23

    finite : T (real binary32 v)
    finite = real-of-magnitude v g (real-under binary32 size (magnitude-clear v) number-23 below-23)

    part-is : sub binary32 size (whole_part size) ≡ part binary32 v finite
    unfolding whole_part
    part-is =
        ap (λ (n : ℕ). sub binary32 size (of_int binary32 (pos (n / 2 ^ low binary32)))) (magnitude-size binary32 v)
        ∙ size-less-whole binary32 v finite size (magnitude-is-real binary32 v finite) (magnitude-clear v) (magnitude-size binary32 v)
        (lt_of_le_of_lt (le_of_eq (sym (magnitude-size binary32 v))) (under binary32 size (magnitude-clear v) number-23 below-23))

    pub nothing : lt remainder.zero (sub binary32 size (whole_part size)) ≡ false → mul binary32 v remainder.zero ≡ rem_euclid_one v
    nothing h = rw constants.2 (nothing_left binary32 v finite (no_part binary32 v finite (rw (constants.2, part-is) at (fails h))) ∙ is-euclid v)

    pub below-zero : lt remainder.zero (sub binary32 size (whole_part size)) ≡ true → lt v remainder.zero ≡ true
        → add binary32 (neg (sub binary32 size (whole_part size))) remainder.one ≡ rem_euclid_one v
    below-zero h l = rw (constants.1, part-is) (left_below binary32 v finite (rw (constants.2, part-is) at (holds h)) (rw constants.2 at (holds l)) ∙ is-euclid v)

    pub above_zero : lt remainder.zero (sub binary32 size (whole_part size)) ≡ true → lt v remainder.zero ≡ false → sub binary32 size (whole_part size) ≡ rem_euclid_one v
    above_zero h l = rw part-is (left-above binary32 v finite (rw (constants.2, part-is) at (holds h)) (rw constants.2 at (fails l)) ∙ is-euclid v)
