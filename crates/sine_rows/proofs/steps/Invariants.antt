-- `steps` fills the first `count` indexes and parts: each entry below k is what `step_of` ensures.
-- Assumes nothing.
use Prim.Native.Nat.{◌≤◌}
use lib.ListN.{get_or}
use Rattle.lists.specs.Turned.{Turned}
use Rattle.sine.specs.Rows.{index_of, part_of}
use Rattle.sine_rows.proofs.steps.Given as goal

abbrev pub invariant-loop-k : goal.invariant-loop-k
invariant-loop-k l =
    Turned (λ k held. index_of (get_or l.places k 0)) 0 l.initial.indexes l.indexes l.k × Turned (λ k held. part_of (get_or l.places k 0)) 0 l.initial.parts l.parts l.k × (l.k ≤ l.count)
