-- The entries of R never fall and none is above 2 ^ 30, by one test over the table. Assumes
-- nothing.
use mathlib.Core.Path.{◌≡◌}
use mathlib.Core.Logic.{inl, inr}
use mathlib.Core.Bool.{Bool, ◌&&◌}
use Prim.Native.Nat.{ℕ, ◌+◌, ◌/◌, ◌≤◌, ◌<◌}
use native.Mathlib.Nat.{le_trans}
use native.Mathlib.Omega.{arith}
use lib.Dec.{T, leb, leb→le, lit≤, lit<}
use lib.Ieee.Fits.{and_l, and_r}
use Rattle.lists.specs.Interpolation.{here_or_on}
use Rattle.lists.specs.Tested.{all_below, below_at}
use Rattle.sine.specs.Table.{sine_table, R}

rises : ℕ → Bool
rises j = leb (R j) (R (j + 1)) && leb (R (j + 1)) 1073741824

all-rise : T (all_below 256 rises)
unfolding rises sine_table
all-rise = tt

pub R-rises : (j : ℕ) → j < 256 → (R j ≤ R (j + 1)) × (R (j + 1) ≤ 1073741824)
unfolding rises
R-rises j h =
    let t = below_at 256 rises all-rise j h in
    (leb→le (R j) (R (j + 1)) (search and_l), leb→le (R (j + 1)) 1073741824 (search and_r))

pub R-small : (j : ℕ) → j < 257 → R j ≤ 1073741824
R-small j h = elim (here_or_on j 256) [ inl l ↦ le_trans (R-rises j l).0 (R-rises j l).1 | inr l ↦ rw (last l) (R-rises 255 (lit< tt)).1 ]
  where
    last : 256 ≤ j → j ≡ 256
    last l = omega arith

-- ---- the two entries around p, as the code has them
module _ (p a b : ℕ) (h : p / 16384 < 256) (ha : a ≡ R (p / 16384)) (hb : b ≡ R (p / 16384 + 1)) where
  pub entries-rise : a ≤ b
  entries-rise = rw (ha, hb) (R-rises (p / 16384) h).0

  pub entry-small : b ≤ 2147483648
  entry-small = rw hb (le_trans (R-rises (p / 16384) h).1 (lit≤ tt))
