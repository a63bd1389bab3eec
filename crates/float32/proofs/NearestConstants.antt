-- The constants that whole numbers can reach are the f32 nearest to what they are named after: a
-- constant is m / 2 ^ k, with m of 24 digits, and the number named lies between the midpoints to
-- the two neighbours, (2 * m - 1) / 2 ^ (k + 1) and (2 * m + 1) / 2 ^ (k + 1). Assumes nothing.
use Rattle.std.proofs.Common.{ℕ, ◌+◌, ◌-◌, ◌*◌, ◌^◌, ◌<◌, ◌≤◌, false, refl, lit<, lit≤}
use lib.Count.{count_trailing_zeros}
use lib.Ieee.{Float, of_bits, of_fields, odd}
use lib.Ieee.Exact.{HasValue}
use Rattle.float32.specs.Constants.{log2_10, log10_2, tau, frac_pi_4, sqrt_2}

-- the square root of 2: the midpoints' squares have 2 between them
pub record NearestRoot (x : Float) (m k : ℕ) : Type 0 where
  pub value : HasValue x false m (2 ^ k)
  pub under : (2 * m - 1) ^ 2 < 2 * (2 ^ (k + 1)) ^ 2
  pub over : 2 * (2 ^ (k + 1)) ^ 2 < (2 * m + 1) ^ 2

pub sqrt-2-nearest : NearestRoot sqrt_2 11863283 23
unfolding of_bits of_fields odd count_trailing_zeros
sqrt-2-nearest = record { value = (refl, refl); under = lit< tt; over = lit< tt }

-- The logarithm of b to base a, at least p / q where a ^ p < b ^ q and at most p' / q' where
-- b ^ q' < a ^ p': both fractions lie between the midpoints.
pub record NearestLogarithm (x : Float) (m k a b p q p' q' : ℕ) : Type 0 where
  pub value : HasValue x false m (2 ^ k)
  pub midpoint-under : (2 * m - 1) * q ≤ p * 2 ^ (k + 1)
  pub under : a ^ p < b ^ q
  pub over : b ^ q' < a ^ p'
  pub midpoint-over : p' * 2 ^ (k + 1) ≤ (2 * m + 1) * q'

pub log2-10-nearest : NearestLogarithm log2_10 13933176 22 2 10 11165 3361 15437 4647
unfolding of_bits of_fields odd count_trailing_zeros
log2-10-nearest = record { value = (refl, refl); midpoint-under = lit≤ tt; under = lit< tt; over = lit< tt; midpoint-over = lit≤ tt }

pub log10-2-nearest : NearestLogarithm log10_2 10100891 25 10 2 8651 28738 2718 9029
unfolding of_bits of_fields odd count_trailing_zeros
log10-2-nearest = record { value = (refl, refl); midpoint-under = lit≤ tt; under = lit< tt; over = lit< tt; midpoint-over = lit≤ tt }

-- the eighth of a turn is the turn, divided exactly
pub eighth-of-turn : HasValue tau false 13176795 (2 ^ 21) × HasValue frac_pi_4 false 13176795 (2 ^ 24)
unfolding of_bits of_fields odd count_trailing_zeros
eighth-of-turn = ((refl, refl), (refl, refl))
