-- Lobes joined one after the other to a row of bins: what is left to join from one on. Assumes
-- nothing.
use mathlib.Core.Path.{◌≡◌, refl, sym, ap, ◌∙◌}
use mathlib.Core.List.{List}
use Prim.Native.Nat.{ℕ, ◌+◌, ◌≤◌, ◌<◌}
use lib.ListN.{length, get_or, take, drop}
use lib.Ieee.{Float}
use Rattle.lists.specs.Maps.{map_at}
use Rattle.lists.specs.Folds.{rest-next, rest-none}
use Rattle.lists.specs.Runs.{runs, runs-step, runs-end}
use Rattle.lobes.specs.declared.Grid.{Grid}
use Rattle.lobes.specs.declared.Lobe.{Lobe}
use Rattle.lobes.specs.Distance.{Logs}
use Rattle.lobe_joins.specs.Joined.{no_lobe, lobe_joined, lobes_joined}

module _ (grid : Grid) (logs : Logs) (gain : Float) (lobes : List Lobe) (count : ℕ) where
  -- what joining the lobes from p on makes of the bins
  abbrev pub lobes-from : ℕ → List Float → List Float
  lobes-from p xs = runs (lobe_joined grid logs gain) (drop p (take count lobes)) xs

  pub lobes-all : (xs : List Float) → lobes-from 0 xs ≡ map_at (lobes_joined grid logs gain (take count lobes)) xs
  unfolding lobes_joined
  lobes-all xs = refl

  pub lobes-next : (p : ℕ) (xs : List Float) {ys : List Float} → count ≤ length lobes → p < count → ys ≡ map_at (λ bin held. lobe_joined grid logs gain bin held (get_or lobes p no_lobe)) xs
      → lobes-from (p + 1) ys ≡ lobes-from p xs
  lobes-next p xs l h w = ap (lobes-from (p + 1)) w ∙ sym (runs-step (lobe_joined grid logs gain) xs (rest-next lobes count p no_lobe l h))

  pub lobes-end : (p : ℕ) (xs : List Float) → count ≤ p → lobes-from p xs ≡ xs
  lobes-end p xs h = runs-end (lobe_joined grid logs gain) xs (rest-none lobes count p h)
