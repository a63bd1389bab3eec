-- `span_of`: the lobes before the current one lie within the span so far, and each has at most
-- 8,193 bins. Assumes nothing.
use mathlib.Core.Path.{◌≡◌}
use mathlib.Core.List.{List}
use Prim.Native.Nat.{ℕ, ◌-◌, ◌*◌, ◌≤◌, ◌<◌}
use lib.ListN.{length, get_or}
use Rattle.lobes.specs.declared.Lobe.{Lobe}
use Rattle.lobe_joins.specs.Joined.{no_lobe}
use Rattle.block_walk.proofs.columns.span_of.Given as goal

-- the first p lobes lie within the bins from first to last
abbrev pub Within : List Lobe → ℕ → ℕ → ℕ → Type 0
Within lobes p first last = (q : ℕ) → q < p → (first ≤ (get_or lobes q no_lobe).first_bin) × ((get_or lobes q no_lobe).last_bin ≤ last)

abbrev pub invariant-loop-p : goal.invariant-loop-p
invariant-loop-p l =
    (length l.lobes ≡ 24)
    × (l.p ≤ l.count)
    × (l.last ≤ l.last_bin)
    × (l.cost ≤ 8193 * l.p)
    × Within l.lobes l.p l.first l.last
