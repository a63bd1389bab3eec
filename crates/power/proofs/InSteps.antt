-- An x from -126 to 128 in steps of 2 ^ -24, moved up by 128: what `near_steps` and `far_steps`
-- give is that and whole steps more, 896 * 2 ^ 24 and 8388480 * 2 ^ 24. Assumes nothing.
use mathlib.Core.Path.{◌≡◌, sym, ap, ◌∙◌}
use mathlib.Core.Bool.{false, not}
use Prim.Native.Nat.{ℕ, ◌+◌, ◌*◌, ◌/◌, ◌%◌, ◌^◌, ◌≤◌, ◌<◌}
use lib.Dec.{T, lit≤}
use lib.IntN.{pos}
use lib.Ieee.{Float, nan, inf, fin, binary32, le, lt, eq, neg, fits, is_nan}
use lib.Ieee.Fits.{and_i}
use Rattle.float_laws.specs.Units.{number}
use Rattle.float_laws.specs.Order.{le_right, le-trans-f, lt-of-le-of-lt-f, lt→le-f, not-lt-f, not-le-f}
use Rattle.float32.specs.Value.{moved}
use Rattle.float32.specs.Order.{within}
use Rattle.float32.proofs.Limits.{within_low, within-high}
use Rattle.fixed_point.specs.Fixed.{nearby, farthest}
use Rattle.fixed_point.proofs.Wide.{moved_more}
use Rattle.power.specs.Table.{low_bits, P}
use Rattle.power.specs.Power.{positive_zero, largest, lowest, limit, power_at, E2}
use Rattle.power.proofs.Made.{at}
use Rattle.power.proofs.Ends.{high-of-le, under-of-lt, E2-nan, E2-below, E2-from}

-- 126
abbrev pub highest : Float
highest = fin false 63 (pos 1)

-- ---- beyond the ends, as the code tests them
pub not-from : (x : Float) → T (fits binary32 x) → T (not (le lowest x)) → positive_zero ≡ E2 x
unfolding fits
not-from nan F n = sym E2-nan
not-from (inf s) F n = sym (E2-below (inf s) (not-le-f binary32 lowest (inf s) tt tt n))
not-from (fin s m e) F n = sym (E2-below (fin s m e) (not-le-f binary32 lowest (fin s m e) tt F n))

pub not-under : (x : Float) → T (fits binary32 x) → T (le lowest x) → T (not (lt x limit)) → largest ≡ E2 x
unfolding fits
not-under x F l n = sym (E2-from x (not-lt-f binary32 x limit (le_right binary32 lowest x F l) tt n))

-- ---- what lies between -126 and 126 lies between the ends
module _ (x : Float) (F : T (fits binary32 x)) (w : T (within lowest highest x)) where
  pub near-from : T (le lowest x)
  near-from = within_low lowest highest x w

  pub near-under : T (lt x limit)
  unfolding fits lt
  near-under = lt-of-le-of-lt-f binary32 x highest limit (le_right binary32 lowest x F near-from) tt tt (within-high lowest highest x w) tt

-- ---- between the ends
module _ (x : Float) (F : T (fits binary32 x)) (l : T (le lowest x)) (h : T (lt x limit)) where
  x-number : T (number binary32 x)
  x-number = le_right binary32 lowest x F l

  -- in a wider range
  inside : (hi : Float) → T (number binary32 hi) → T (number binary32 (neg hi)) → T (le (neg hi) lowest) → T (le limit hi) → T (within (neg hi) hi x)
  unfolding within fits
  inside hi p q a b =
      and_i (le (neg hi) x) (le x hi) (le-trans-f binary32 (neg hi) lowest x q tt x-number a l) (le-trans-f binary32 x limit hi x-number tt p (lt→le-f binary32 x limit x-number tt h) b)

  about : T (within (neg limit) limit x)
  unfolding fits neg le lt eq
  about = inside limit tt tt tt tt

  pub near-range : T (within (neg nearby) nearby x)
  unfolding fits neg le lt eq
  near-range = inside nearby tt tt tt tt

  pub far-range : T (within (neg farthest) farthest x)
  unfolding fits neg le lt eq
  far-range = inside farthest tt tt tt tt

  pub near-is : moved (2 ^ 10) x ≡ 896 * 2 ^ 24 + moved 128 x
  near-is = moved_more 7 (lit≤ tt) x F about 896

  pub far-is : moved (2 ^ 23) x ≡ 8388480 * 2 ^ 24 + moved 128 x
  far-is = moved_more 7 (lit≤ tt) x F about 8388480

  pub steps-from : 2 * 2 ^ 24 ≤ moved 128 x
  steps-from = (high-of-le x l).1

  pub steps-below : moved 128 x < 256 * 2 ^ 24
  steps-below = under-of-lt x h

  pub not-nan : T (not (is_nan x))
  not-nan = (high-of-le x l).0

-- y steps, where they are those of an x between the ends: their range, and the power that they make
pub record InSteps (x : Float) (y : ℕ) : Type 0 where
  pub from : 2 * 2 ^ 24 ≤ y
  pub below : y < 256 * 2 ^ 24
  pub power : {r : Float} → r ≡ power_at low_bits P (y / 2 ^ 24) (y % 2 ^ 24) → r ≡ E2 x

pub in-steps : (x : Float) (y : ℕ) → T (fits binary32 x) → T (le lowest x) → T (lt x limit) → y ≡ moved 128 x → InSteps x y
in-steps x y F l h e = record {
  from = rw e (steps-from x F l h);
  below = rw e (steps-below x F l h);
  power = λ r. r ∙ ap (λ (z : ℕ). power_at low_bits P (z / 2 ^ 24) (z % 2 ^ 24)) e ∙ sym (at x (not-nan x F l h));
}
