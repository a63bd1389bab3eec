-- `find_steps` fills the first `count` entries: each entry below k is the step of its own digits,
-- or an entry of the table at an end of that. Assumes nothing.
use Prim.Native.Nat.{◌≤◌}
use lib.ListN.{get_or}
use Rattle.lists.specs.Turned.{Turned}
use Rattle.power_rows.specs.Log2.{step_of, from_of, to_of}
use Rattle.power_rows.proofs.log2.find_steps.Given as goal

abbrev pub invariant-loop-k : goal.invariant-loop-k
invariant-loop-k l =
    (l.k ≤ l.count) × Turned (λ k held. step_of (get_or l.digits k 0)) 0 l.initial.steps l.steps l.k × Turned (λ k held. from_of (get_or l.digits k 0)) 0 l.initial.from l.from l.k × Turned (λ k held. to_of (get_or l.digits k 0)) 0 l.initial.to l.to l.k
