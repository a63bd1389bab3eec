-- `log2_row` walks along the row: the numbers below `start` are done. Assumes nothing.
use mathlib.Core.Path.{◌≡◌}
use Prim.Native.Nat.{◌≤◌}
use lib.ListN.{length}
use Rattle.lists.specs.Turned.{Turned}
use Rattle.power.specs.Log.{L2}
use Rattle.power_rows.proofs.log2.log2_row.Given as goal

abbrev pub invariant-loop-start : goal.invariant-loop-start
invariant-loop-start l =
    Turned (λ i v. L2 v) 0 l.initial.row l.row l.start × (l.start ≤ l.count) × (length l.digits ≡ 64) × (length l.steps ≡ 64) × (length l.from ≡ 64) × (length l.to ≡ 64)
