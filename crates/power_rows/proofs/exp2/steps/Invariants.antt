-- `steps` fills the first `count` entries: each entry below k is what `steps_of` ensures.
-- Assumes nothing.
use Prim.Native.Nat.{◌≤◌}
use lib.ListN.{get_or}
use lib.Ieee.{nan}
use Rattle.lists.specs.Turned.{Turned}
use Rattle.float32.specs.Value.{moved}
use Rattle.power_rows.proofs.exp2.steps.Given as goal

abbrev pub invariant-loop-k : goal.invariant-loop-k
invariant-loop-k l = Turned (λ k held. moved 128 (get_or l.inside k nan)) 0 l.initial.found l.found l.k × (l.k ≤ l.count)
