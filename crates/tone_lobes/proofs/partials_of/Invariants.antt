-- `partials_of` counts: the partials before the current one and those from it on are all. Assumes
-- nothing.
use mathlib.Core.Path.{◌≡◌}
use Prim.Native.Nat.{◌+◌, ◌≤◌}
use lib.ListN.{length}
use Rattle.tone_lobes.specs.ToneLobes.{partials_of}
use Rattle.tone_lobes.proofs.Listed.{after}
use Rattle.tone_lobes.proofs.partials_of.Given as goal

abbrev pub invariant-loop-count : goal.invariant-loop-count
invariant-loop-count l = (l.count ≤ l.grid.partials) × (l.count + length (after l.grid l.tone l.count) ≡ length (partials_of l.grid l.tone))
