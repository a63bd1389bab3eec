-- `audible` fills the first `count` entries: each entry below k is its own gain, at least
-- least_gain. Assumes nothing.
use Prim.Native.Nat.{◌+◌, ◌≤◌}
use lib.ListN.{get_or}
use lib.Ieee.{nan}
use Rattle.lists.specs.Turned.{Turned}
use Rattle.float32.specs.Order.{maximum}
use Rattle.smoothing.specs.Smoothing.{least_gain}
use Rattle.smoothing.proofs.audible.Given as goal

abbrev pub invariant-loop-k : goal.invariant-loop-k
invariant-loop-k l = Turned (λ k held. maximum (get_or l.gains (l.start + k) nan) least_gain) 0 l.initial.row l.row l.k × (l.k ≤ l.count)
