-- `openings_of_bells` replaces the first `count` bells: of those below k each is what the lobe
-- opens under it. Assumes nothing.
use Prim.Native.Nat.{◌≤◌}
use Rattle.lists.specs.Turned.{Turned}
use Rattle.lobe_rows.specs.Stages.{opened_by}
use Rattle.lobe_rows.proofs.chunk.openings_of_bells.Given as goal

abbrev pub invariant-loop-k : goal.invariant-loop-k
invariant-loop-k l = Turned (λ k bell. opened_by l.strength bell) 0 l.initial.chunk l.chunk l.k × (l.k ≤ l.count)
