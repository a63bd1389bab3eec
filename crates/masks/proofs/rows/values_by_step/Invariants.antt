-- `values_by_step` replaces the first `count` entries: each entry below k is the curve value at its
-- product. Assumes nothing.
use Prim.Native.Nat.{◌+◌, ◌*◌, ◌-◌, ◌≤◌, min}
use lib.Ieee.{nan}
use Rattle.lists.specs.Turned.{Turned}
use lib.ListN.{get_or}
use Rattle.limits.specs.Lengths.{last_point}
use Rattle.masks.proofs.rows.values_by_step.Given as goal

abbrev pub invariant-loop-k : goal.invariant-loop-k
invariant-loop-k l = Turned (λ k held. get_or l.curve (min ((l.start + k) * l.step) last_point) nan) 0 l.initial.row l.row l.k × (l.k ≤ l.count)
