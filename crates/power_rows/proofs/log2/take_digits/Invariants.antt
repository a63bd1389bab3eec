-- `take_digits` fills the first `count` entries: each entry below k has the digits of its own
-- number. Assumes nothing.
use Prim.Native.Nat.{◌+◌, ◌≤◌}
use lib.ListN.{get_or}
use lib.Ieee.{nan}
use Rattle.lists.specs.Turned.{Turned}
use Rattle.power.specs.Stages.{digits_of}
use Rattle.power_rows.proofs.log2.take_digits.Given as goal

abbrev pub invariant-loop-k : goal.invariant-loop-k
invariant-loop-k l = Turned (λ k held. digits_of (get_or l.row (l.start + k) nan)) 0 l.initial.digits l.digits l.k × (l.k ≤ l.count)
