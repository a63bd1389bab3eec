-- The drawn curve's gains at a row of bins: the points by a product are the points, the decibels
-- that a row counts as are no NaN, and the stages one after the other give each bin its gain.
-- Assumes nothing.
use mathlib.Core.Path.{◌≡◌, sym, ap, ◌∙◌, subst}
use mathlib.Core.Bool.{not}
use mathlib.Core.Logic.{◌⊎◌, inl, inr}
use mathlib.Core.List.{List}
use Prim.Native.Nat.{ℕ, ◌+◌, ◌*◌, ◌/◌, ◌≤◌, ◌<◌, min}
use native.Mathlib.Omega.{arith}
use lib.Dec.{T}
use lib.ListN.{length, get_or}
use lib.Ieee.{Float, nan, is_nan}
use Rattle.lists.specs.Maps.{map_range, get_or-map_range, between_in}
use Rattle.lists.specs.Stages.{stage-same, stages}
use Rattle.decibels.specs.Gain.{gain_of}
use Rattle.limits.specs.Lengths.{last_point}
use Rattle.masks.specs.Manual.{curve_point, manual_gain}
use Rattle.masks.specs.Counted.{counted_as}
use Rattle.masks.proofs.Points.{point-by-step}
use Rattle.masks.proofs.Counted.{counted-gain, counted-no-nan}

pub row-no-nan :
    (count : ℕ) (xs : List Float) → count ≤ length xs → (k : ℕ) → k < count
    → T (not (is_nan (get_or (map_range (λ k db. counted_as db) 0 count xs) k nan)))
row-no-nan count xs l k h =
    subst (λ (x : Float). T (not (is_nan x))) (sym entry) (counted-no-nan (get_or xs k nan))
  where
    entry : get_or (map_range (λ k db. counted_as db) 0 count xs) k nan ≡ counted_as (get_or xs k nan)
    entry =
        get_or-map_range (λ k db. counted_as db) 0 count xs k nan (omega arith)
        ∙ between_in (λ k db. counted_as db) 0 count k (get_or xs k nan) (omega arith) h

module _ (curve : List Float) (size start count : ℕ) where
  -- the curve value that an entry's bin reads
  abbrev pub value : ℕ → Float → Float
  value k held = get_or curve (curve_point (start + k) size) nan

  pub by-step : (step : ℕ) → 0 < step → (step ≡ 0) ⊎ (step * (size / 2) ≡ last_point) → (xs : List Float)
      → map_range (λ k held. get_or curve (min ((start + k) * step) last_point) nan) 0 count xs ≡ map_range value 0 count xs
  by-step step p (inl z) xs = absurd (omega arith)
  by-step step p (inr e) xs =
      stage-same (λ k held. get_or curve (min ((start + k) * step) last_point) nan) value 0 count xs
      (λ k held a b. ap (λ i. get_or curve i nan) (sym (point-by-step (start + k) size step e)))

  pub staged : (xs : List Float)
      → map_range (λ k db. gain_of db) 0 count (map_range (λ k db. counted_as db) 0 count (map_range value 0 count xs))
      ≡ map_range (λ k held. manual_gain curve (start + k) size) 0 count xs
  unfolding manual_gain
  staged xs =
      stages (λ k db. gain_of db) (λ k db. counted_as db) 0 count (map_range value 0 count xs)
      ∙ stages (λ k db. gain_of (counted_as db)) value 0 count xs
      ∙ stage-same (λ k held. gain_of (counted_as (value k held))) (λ k held. manual_gain curve (start + k) size) 0 count xs (λ k held a b. counted-gain (value k held))
