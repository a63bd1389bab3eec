-- `places` fills the first `count` entries: each entry below k is what `place_ahead` ensures of its
-- angle. Assumes nothing.
use Prim.Native.Nat.{◌+◌, ◌≤◌}
use lib.ListN.{get_or}
use lib.Ieee.{nan}
use Rattle.lists.specs.Turned.{Turned}
use Rattle.sine.specs.Rows.{place_ahead}
use Rattle.sine_rows.proofs.places.Given as goal

abbrev pub invariant-loop-k : goal.invariant-loop-k
invariant-loop-k l = Turned (λ k held. place_ahead l.ahead (get_or l.row (l.start + k) nan)) 0 l.initial.found l.found l.k × (l.k ≤ l.count)
