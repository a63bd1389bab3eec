-- `places` replaces the first `count` entries: of those below k each is a place, by the distance
-- that the table gives. Assumes nothing.
use Prim.Native.Nat.{◌+◌, ◌≤◌}
use lib.ListN.{get_or}
use lib.Ieee.{nan, binary32, sub}
use Rattle.lists.specs.Turned.{Turned}
use Rattle.lobes.specs.Distance.{in_widths}
use Rattle.lobe_rows.specs.Stages.{place_of}
use Rattle.lobe_rows.proofs.chunk.places.Given as goal

abbrev pub invariant-loop-k : goal.invariant-loop-k
invariant-loop-k l = Turned (λ k held. place_of l.peak_squared (in_widths l.width (sub binary32 (get_or l.table (l.start + k) nan) l.center_log2))) 0 l.initial.chunk l.chunk l.k × (l.k ≤ l.count)
