-- `window_exponents` replaces the first `count` entries: each entry below k is the exponent of its
-- place. Assumes nothing.
use Prim.Native.Nat.{◌≤◌}
use Rattle.lists.specs.Turned.{Turned}
use Rattle.motion.specs.Shapes.{window_exponent}
use Rattle.motion_rows.proofs.shapes.window_exponents.Given as goal

abbrev pub invariant-loop-k : goal.invariant-loop-k
invariant-loop-k l = Turned (λ k x. window_exponent x l.size l.phase) 0 l.initial.row l.row l.k × (l.k ≤ l.count)
