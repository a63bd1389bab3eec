-- `leading` fills the first `count` entries: each entry below k is what `digits_of` ensures.
-- Assumes nothing.
use Prim.Native.Nat.{◌≤◌}
use lib.ListN.{get_or}
use Rattle.lists.specs.Turned.{Turned}
use Rattle.power_rows.specs.Exp2.{digits}
use Rattle.power_rows.proofs.exp2.leading.Given as goal

abbrev pub invariant-loop-k : goal.invariant-loop-k
invariant-loop-k l = Turned (λ k held. digits (get_or l.found k 0)) 0 l.initial.values l.values l.k × (l.k ≤ l.count)
