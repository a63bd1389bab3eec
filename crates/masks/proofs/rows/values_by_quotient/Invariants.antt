-- `values_by_quotient` replaces the first `count` entries: each entry below k is the curve value
-- that its bin reads. Assumes nothing.
use Prim.Native.Nat.{◌+◌, ◌-◌, ◌≤◌}
use lib.Ieee.{nan}
use Rattle.lists.specs.Turned.{Turned}
use lib.ListN.{get_or}
use Rattle.masks.specs.Manual.{curve_point}
use Rattle.masks.proofs.rows.values_by_quotient.Given as goal

abbrev pub invariant-loop-k : goal.invariant-loop-k
invariant-loop-k l = Turned (λ k held. get_or l.curve (curve_point (l.start + k) l.size) nan) 0 l.initial.row l.row l.k × (l.k ≤ l.count)
