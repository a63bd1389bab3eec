-- `drifts` walks along the row: the places below `start` are done. Assumes nothing.
use mathlib.Core.Path.{◌≡◌}
use Prim.Native.Nat.{◌≤◌}
use lib.ListN.{length}
use Rattle.lists.specs.Turned.{Turned}
use Rattle.motion.specs.Shapes.{drift}
use Rattle.motion_rows.proofs.shapes.drifts.Given as goal

abbrev pub invariant-loop-start : goal.invariant-loop-start
invariant-loop-start l =
    Turned (λ i x. drift x l.size l.phase) 0 l.initial.row l.row l.start × (l.start ≤ l.count) × (length l.broad ≡ 256) × (length l.middle ≡ 256) × (length l.detail ≡ 256)
