-- `fifth_powers` replaces the first `count` entries: each entry below k is its fifth power.
-- Assumes nothing.
use Prim.Native.Nat.{◌≤◌}
use Rattle.lists.specs.Turned.{Turned}
use Rattle.float32.specs.Powers.{fifth}
use Rattle.motion_rows.proofs.shapes.fifth_powers.Given as goal

abbrev pub invariant-loop-k : goal.invariant-loop-k
invariant-loop-k l = Turned (λ k v. fifth v) 0 l.initial.row l.row l.k × (l.k ≤ l.count)
