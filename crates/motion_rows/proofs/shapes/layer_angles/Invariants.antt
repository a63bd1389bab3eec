-- `layer_angles` fills the first `count` entries of each layer: each entry below k is the angle at
-- its place. Assumes nothing.
use Prim.Native.Nat.{◌+◌, ◌≤◌}
use lib.ListN.{get_or}
use lib.Ieee.{nan}
use Rattle.lists.specs.Turned.{Turned}
use Rattle.motion.specs.Shapes.{broad_angle, middle_angle, detail_angle}
use Rattle.motion_rows.proofs.shapes.layer_angles.Given as goal

abbrev pub invariant-loop-k : goal.invariant-loop-k
invariant-loop-k l =
    Turned (λ k held. broad_angle (get_or l.row (l.start + k) nan) l.size l.phase) 0 l.initial.broad l.broad l.k
    × Turned (λ k held. middle_angle (get_or l.row (l.start + k) nan) l.size l.phase) 0 l.initial.middle l.middle l.k
    × Turned (λ k held. detail_angle (get_or l.row (l.start + k) nan) l.size l.phase) 0 l.initial.detail l.detail l.k
    × (l.k ≤ l.count)
