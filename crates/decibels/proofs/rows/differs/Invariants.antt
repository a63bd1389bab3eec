-- `differs` has seen no other number: each entry below k is the number, as floats compare. Assumes
-- nothing.
use mathlib.Core.Path.{◌≡◌}
use mathlib.Core.Bool.{false}
use Prim.Native.Nat.{◌-◌, ◌≤◌}
use Rattle.decibels.proofs.Level.{AllEqual}
use Rattle.decibels.proofs.rows.differs.Given as goal

abbrev pub invariant-loop-k : goal.invariant-loop-k
invariant-loop-k l = (l.other ≡ false → AllEqual l.row l.first l.k) × (l.k ≤ l.count)
