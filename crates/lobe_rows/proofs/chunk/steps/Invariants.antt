-- `steps` replaces the first `count` places, and as many indexes: of those below k each is what
-- `step_of` ensures. Assumes nothing.
use Prim.Native.Nat.{◌≤◌}
use lib.ListN.{get_or}
use lib.Ieee.{nan}
use Rattle.lists.specs.Turned.{Turned}
use Rattle.gaussian.specs.Bell.{index_of, part_of}
use Rattle.lobe_rows.proofs.chunk.steps.Given as goal

abbrev pub invariant-loop-k : goal.invariant-loop-k
invariant-loop-k l =
    Turned (λ k place. part_of place) 0 l.initial.chunk l.chunk l.k × Turned (λ k held. index_of (get_or l.initial.chunk k nan)) 0 l.initial.indexes l.indexes l.k × (l.k ≤ l.count)
