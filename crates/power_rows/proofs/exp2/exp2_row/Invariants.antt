-- `exp2_row` walks along the row: the numbers below `start` are done. Assumes nothing.
use mathlib.Core.Path.{◌≡◌}
use Prim.Native.Nat.{◌≤◌}
use lib.ListN.{length}
use Rattle.lists.specs.Turned.{Turned}
use Rattle.power.specs.Power.{E2}
use Rattle.power_rows.proofs.exp2.exp2_row.Given as goal

abbrev pub invariant-loop-start : goal.invariant-loop-start
invariant-loop-start l =
    Turned (λ i x. E2 x) 0 l.initial.row l.row l.start × (l.start ≤ l.count) × (length l.inside ≡ 64) × (length l.found ≡ 64) × (length l.values ≡ 64)
