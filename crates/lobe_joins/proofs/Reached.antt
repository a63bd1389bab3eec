-- A lobe and the bins that it reaches: there its opening is joined, and any other bin keeps what
-- it holds. Assumes nothing.
use mathlib.Core.Path.{◌≡◌, refl, ap, ◌∙◌}
use mathlib.Core.Bool.{Bool, true, false, cond, ◌&&◌}
use mathlib.Core.Logic.{◌⊎◌, inl, inr}
use mathlib.Core.List.{List, [], ◌∷◌}
use Prim.Native.Nat.{ℕ, ◌≤◌, ◌<◌}
use borrow.Author.Tests.{le-leb, lt-leb}
use lib.Dec.{leb}
use lib.Ieee.{Float}
use Rattle.lists.specs.Folds.{fold}
use Rattle.lists.specs.Totals.{All}
use Rattle.lobes.specs.declared.Grid.{Grid}
use Rattle.lobes.specs.declared.Lobe.{Lobe}
use Rattle.lobes.specs.Distance.{Logs}
use Rattle.lobes.specs.Lobe.{opening}
use Rattle.lobe_joins.specs.Joined.{joined, lobe_joined, lobes_joined}

abbrev pub Away : ℕ → Lobe → Type 0
Away bin lobe = bin < lobe.first_bin ⊎ lobe.last_bin < bin

module _ (grid : Grid) (logs : Logs) (gain : Float) (bin : ℕ) (held : Float) where
  pub lobe-there : (lobe : Lobe) → lobe.first_bin ≤ bin → bin ≤ lobe.last_bin → lobe_joined grid logs gain bin held lobe ≡ joined gain held (opening grid logs lobe bin)
  unfolding lobe_joined
  lobe-there lobe p q = simp (le-leb lobe.first_bin bin p, le-leb bin lobe.last_bin q)

  pub lobe-away : (lobe : Lobe) → Away bin lobe → lobe_joined grid logs gain bin held lobe ≡ held
  unfolding lobe_joined
  lobe-away lobe (inl p) = simp (lt-leb lobe.first_bin bin p)
  lobe-away lobe (inr p) = rw (lt-leb bin lobe.last_bin p) (neither (leb lobe.first_bin bin))
    where
      neither : (b : Bool) → cond (b && false) (joined gain held (opening grid logs lobe bin)) held ≡ held
      neither true = refl
      neither false = refl

  -- and so where none of several lobes reaches it
  pub lobes-away : (lobes : List Lobe) → All (Away bin) lobes → lobes_joined grid logs gain lobes bin held ≡ held
  unfolding lobes_joined fold
  lobes-away [] all = refl
  lobes-away (x ∷ xs) all = ap (λ (h : Float). fold (λ held lobe. lobe_joined grid logs gain bin held lobe) h xs) (lobe-away x all.0) ∙ lobes-away xs all.1
