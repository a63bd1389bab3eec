-- `clip` fills the first `count` entries: each entry below k is what `clipped` ensures. Assumes
-- nothing.
use Prim.Native.Nat.{◌+◌, ◌≤◌}
use lib.ListN.{get_or}
use lib.Ieee.{nan}
use Rattle.lists.specs.Turned.{Turned}
use Rattle.power_rows.specs.Exp2.{clipped}
use Rattle.power_rows.proofs.exp2.clip.Given as goal

abbrev pub invariant-loop-k : goal.invariant-loop-k
invariant-loop-k l = Turned (λ k held. clipped (get_or l.row (l.start + k) nan)) 0 l.initial.inside l.inside l.k × (l.k ≤ l.count)
