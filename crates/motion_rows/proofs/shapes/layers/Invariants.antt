-- `layers` replaces `count` places from `start` on: each entry below i is the drift, the sum of its
-- layers. Assumes nothing.
use Prim.Native.Nat.{◌+◌, ◌≤◌}
use Rattle.lists.specs.Turned.{Turned}
use Rattle.motion.specs.Shapes.{drift}
use Rattle.motion_rows.proofs.shapes.layers.Given as goal

abbrev pub invariant-loop-i : goal.invariant-loop-i
invariant-loop-i l = Turned (λ i x. drift x l.size l.phase) l.start l.initial.row l.row l.i × (l.i ≤ l.start + l.count)
