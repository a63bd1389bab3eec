-- A lobe joined to a row, whose gain is 1: the row has the openings themselves. Assumes nothing.
use mathlib.Core.Path.{◌≡◌, refl, ap, ◌∙◌}
use mathlib.Core.Bool.{Bool, cond, ◌&&◌}
use mathlib.Core.List.{List, [], ◌∷◌}
use Prim.Native.Nat.{ℕ}
use lib.Dec.{leb}
use lib.Ieee.{Float, binary32}
use Rattle.lists.specs.Folds.{fold}
use Rattle.lists.specs.Totals.{All}
use Rattle.float_laws.specs.Bounds as bounds
use Rattle.float32.specs.Order.{maximum}
use Rattle.float32.specs.Remainder.{one}
use Rattle.lobes.specs.declared.Grid.{Grid}
use Rattle.lobes.specs.declared.Lobe.{Lobe}
use Rattle.lobes.specs.Distance.{lent}
use Rattle.lobes.specs.Lobe.{opening}
use Rattle.lobes.proofs.NoteLevels.{one-is}
use Rattle.lobe_joins.specs.Joined.{lobe_joined}
use Rattle.lobe_joins.proofs.Maxima.{join_where}
use Rattle.lobe_joins.proofs.Highest.{InUnit}

module _ (grid : Grid) (table : List Float) (bin : ℕ) where
  abbrev pub reaches : Lobe → Bool
  reaches lobe = leb lobe.first_bin bin && leb bin lobe.last_bin

  abbrev pub opens : Lobe → Float
  opens lobe = opening grid (lent table) lobe bin

  abbrev pub AllInUnit : List Lobe → Type 0
  AllInUnit = All (InUnit reaches opens)

  pub row_step : (held : Float) (lobe : Lobe) → InUnit reaches opens lobe → lobe_joined grid (lent table) one bin held lobe ≡ join_where reaches opens held lobe
  unfolding lobe_joined
  row_step held lobe u = ap (λ (x : Float). cond (reaches lobe) (maximum held x) held) (rw one-is (bounds.mul-one-f binary32 (opens lobe) u.is_real))

  pub row-run : (held : Float) (lobes : List Lobe) → AllInUnit lobes → fold (λ most lobe. lobe_joined grid (lent table) one bin most lobe) held lobes ≡ fold (join_where reaches opens) held lobes
  unfolding fold
  row-run held [] all = refl
  row-run held (lobe ∷ lobes) all =
      ap (λ (x : Float). fold (λ most lobe. lobe_joined grid (lent table) one bin most lobe) x lobes) (row_step held lobe all.0) ∙ row-run (join_where reaches opens held lobe) lobes all.1
