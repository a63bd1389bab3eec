-- `lines` replaces the first `count` parts: of those below k each is the line from its own entry.
-- Assumes nothing.
use Prim.Native.Nat.{◌≤◌}
use lib.ListN.{get_or}
use Rattle.lists.specs.Turned.{Turned}
use Rattle.gaussian.specs.Bell.{line}
use Rattle.lobe_rows.proofs.chunk.lines.Given as goal

abbrev pub invariant-loop-k : goal.invariant-loop-k
invariant-loop-k l = Turned (λ k part. line (get_or l.indexes k 0) part) 0 l.initial.chunk l.chunk l.k × (l.k ≤ l.count)
