-- `columns_of` writes the columns in step: each up to the current place. Assumes nothing.
use mathlib.Core.Path.{◌≡◌}
use Prim.Native.Nat.{◌-◌, ◌≤◌}
use lib.ListN.{length, get_or}
use Rattle.lists.specs.Turned.{Turned}
use Rattle.lobe_joins.specs.Joined.{no_lobe}
use Rattle.block_walk.proofs.columns.columns_of.Given as goal

abbrev pub invariant-loop-p : goal.invariant-loop-p
invariant-loop-p l =
    (length l.lobes ≡ 24)
    × (l.p ≤ l.count)
    × Turned (λ p held. (get_or l.lobes p no_lobe).center_log2) 0 l.initial.centers l.centers l.p
    × Turned (λ p held. (get_or l.lobes p no_lobe).strength) 0 l.initial.strengths l.strengths l.p
    × Turned (λ p held. (get_or l.lobes p no_lobe).peak_squared) 0 l.initial.peaks l.peaks l.p
