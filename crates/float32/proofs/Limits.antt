-- What a passed test of limits says: the two comparisons, that the float is a number and no NaN,
-- and between finite ends or where it is finite that it is a real one. Assumes nothing.
use Rattle.std.proofs.Common.{not, T}
use lib.Ieee.{Float, nan, inf, fin, Format, lt, eq, le, is_nan, fits}
use lib.Ieee.Fits.{and_l, and_r}
use Rattle.float_laws.specs.Units.{number, real}
use Rattle.float_laws.specs.Order.{le_right}
use Rattle.float_laws.specs.Bounds.{real-between}
use Rattle.float32.specs.Order.{within, finite}

module _ (lo hi x : Float) (t : T (within lo hi x)) where
  pub within_low : T (le lo x)
  unfolding within
  within_low = and_l (le lo x) (le x hi) t

  pub within-high : T (le x hi)
  unfolding within
  within-high = and_r (le lo x) (le x hi) t

  pub within-number : (f : Format) → T (fits f x) → T (number f x)
  within-number f h = le_right f lo x h within_low

  pub within_real : (f : Format) → T (fits f x) → T (real f lo) → T (real f hi) → T (real f x)
  within_real f h p q = real-between f lo x hi (within-number f h) p q within_low within-high

no-nan-below : (x hi : Float) → T (le x hi) → T (not (is_nan x))
unfolding le lt eq is_nan
no-nan-below nan hi t = t
no-nan-below (inf s) hi t = tt
no-nan-below (fin s m e) hi t = tt

pub within-no-nan : (lo hi x : Float) → T (within lo hi x) → T (not (is_nan x))
within-no-nan lo hi x t = no-nan-below x hi (within-high lo hi x t)

pub finite-no-nan : (x : Float) → T (finite x) → T (not (is_nan x))
unfolding finite is_nan
finite-no-nan nan t = t
finite-no-nan (inf s) t = tt
finite-no-nan (fin s m e) t = tt

pub finite-real : (f : Format) (x : Float) → T (fits f x) → T (finite x) → T (real f x)
unfolding finite
finite-real f nan h t = t
finite-real f (inf s) h t = t
finite-real f (fin s m e) h t = h
