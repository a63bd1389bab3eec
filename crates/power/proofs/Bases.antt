-- pow10 and exp never fall and have E2's range, and log10 never falls: each is E2 or L2 with a
-- product by a positive constant before or after it, which keeps the order and leaves 0 as it is.
-- Assumes nothing.
use mathlib.Core.Path.{◌≡◌, refl}
use lib.Dec.{T}
use lib.Count.{count_trailing_zeros}
use lib.Ieee.{Float, binary32, le, mul, of_bits, round, size, span, climb, units, odd}
use lib.Ieee.Positive.{positive}
use Rattle.float_laws.specs.Bounds.{one}
use Rattle.float_laws.specs.Inf.{mul-by}
use Rattle.power.specs.Power.{positive_zero, E2}
use Rattle.power.specs.Log.{positive_normal}
use Rattle.float32.specs.Constants.{log2_10, log2_e, log10_2}
use Rattle.power.specs.Decimal.{pow10, exp, log10}
use Rattle.power.proofs.Rising.{E2-mono}
use Rattle.power.proofs.LogRising.{L2-mono}
use Rattle.float_laws.specs.Units.{real}
use Rattle.power.proofs.Range.{E2-real, E2-nonneg, E2-at-most-one, E2-at-least-one}

-- ---- the constants are positive
record Factor (c : Float) : Type 0 where
  above : T (positive c)
  zero : mul binary32 positive_zero c ≡ positive_zero

factor-10 : Factor log2_10
unfolding of_bits positive mul round size span climb units odd count_trailing_zeros
factor-10 = record { above = tt; zero = refl }

factor-e : Factor log2_e
unfolding of_bits positive mul round size span climb units odd count_trailing_zeros
factor-e = record { above = tt; zero = refl }

factor-2 : Factor log10_2
unfolding of_bits positive mul round size span climb units odd count_trailing_zeros
factor-2 = record { above = tt; zero = refl }

times-mono : {c : Float} → Factor c → (x y : Float) → T (le x y) → T (le (mul binary32 x c) (mul binary32 y c))
times-mono {c} f x y h = mul-by binary32 c f.above x y h

-- ---- E2 of a product
module _ {c : Float} (f : Factor c) where
  power-mono : (x y : Float) → T (le x y) → T (le (E2 (mul binary32 x c)) (E2 (mul binary32 y c)))
  power-mono x y h = E2-mono (mul binary32 x c) (mul binary32 y c) (times-mono f x y h)

  at_most_one : (y : Float) → T (le y positive_zero) → T (le (E2 (mul binary32 y c)) one)
  at_most_one y h = E2-at-most-one (mul binary32 y c) (rw f.zero at (times-mono f y positive_zero h))

  at_least_one : (y : Float) → T (le positive_zero y) → T (le one (E2 (mul binary32 y c)))
  at_least_one y h = E2-at-least-one (mul binary32 y c) (rw f.zero at (times-mono f positive_zero y h))

pub pow10-mono : (x y : Float) → T (le x y) → T (le (pow10 x) (pow10 y))
pow10-mono = power-mono factor-10

pub pow10-at-most-one : (y : Float) → T (le y positive_zero) → T (le (pow10 y) one)
pow10-at-most-one = at_most_one factor-10

pub pow10-at-least-one : (y : Float) → T (le positive_zero y) → T (le one (pow10 y))
pow10-at-least-one = at_least_one factor-10

pub pow10-real : (y : Float) → T (real binary32 (pow10 y))
pow10-real y = E2-real _

pub pow10-nonneg : (y : Float) → T (le positive_zero (pow10 y))
pow10-nonneg y = E2-nonneg _

pub exp-mono : (x y : Float) → T (le x y) → T (le (exp x) (exp y))
exp-mono = power-mono factor-e

pub exp-at-most-one : (y : Float) → T (le y positive_zero) → T (le (exp y) one)
exp-at-most-one = at_most_one factor-e

pub exp-real : (y : Float) → T (real binary32 (exp y))
exp-real y = E2-real _

pub exp-nonneg : (y : Float) → T (le positive_zero (exp y))
exp-nonneg y = E2-nonneg _

pub log10-mono : (v v' : Float) → T (positive_normal v) → T (positive_normal v') → T (le v v') → T (le (log10 v) (log10 v'))
log10-mono v v' t t' h = times-mono factor-2 _ _ (L2-mono v v' t t' h)
