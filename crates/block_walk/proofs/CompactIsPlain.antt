-- The compact way gives each bin the plain way's openness: lobes joined one after the other, each
-- under the gain, hold what the most that one of them opens holds under the gain. Assumes nothing.
use mathlib.Core.Path.{◌≡◌, sym, ap, ◌∙◌}
use mathlib.Core.List.{List}
use Prim.Native.Nat.{ℕ}
use lib.Ieee.{Float, binary32, mul}
use Rattle.lists.specs.Folds.{fold}
use Rattle.float32.specs.Order.{maximum}
use Rattle.float32.specs.Remainder.{zero}
use Rattle.lobes.specs.declared.Grid.{Grid}
use Rattle.lobes.specs.declared.Lobe.{Lobe}
use Rattle.lobes.specs.Distance.{lent}
use Rattle.lobe_joins.specs.Joined.{lobe_joined, lobes_joined}
use Rattle.lobe_joins.proofs.Maxima.{Openness, zero-unit}
use Rattle.lobe_joins.proofs.Highest.{none-gained, gain-last}
use Rattle.lobe_joins.proofs.RowJoined.{reaches, opens, AllInUnit, row-run}
use Rattle.block_rows.specs.Most.{most_open}

module _ (grid : Grid) (table : List Float) (bin : ℕ) where
  pub compact-is-plain : {held gain : Float} (lobes : List Lobe) → AllInUnit grid table bin lobes → Openness held → Openness gain
      → lobes_joined grid (lent table) gain lobes bin held ≡ maximum held (mul binary32 (most_open grid (lent table) lobes bin) gain)
  unfolding lobes_joined lobe_joined
  compact-is-plain {held} {gain} lobes all u g =
      ap (λ (h : Float). fold (λ held lobe. lobe_joined grid (lent table) gain bin held lobe) h lobes) (sym (none-gained u g)) ∙ gain-last (reaches grid table bin) (opens grid table bin) u g zero lobes zero-unit all ∙ ap (λ (x : Float). maximum held (mul binary32 x gain)) (sym (row-run grid table bin zero lobes all))
