-- `decades` replaces the first `count` entries: each entry below k is divided by 20. Assumes
-- nothing.
use Prim.Native.Nat.{◌-◌, ◌≤◌}
use lib.Ieee.{binary32, div}
use Rattle.lists.specs.Turned.{Turned}
use Rattle.decibels.specs.Gain.{decibels_per_decade}
use Rattle.decibels.proofs.rows.decades.Given as goal

abbrev pub invariant-loop-k : goal.invariant-loop-k
invariant-loop-k l = Turned (λ k db. div binary32 db decibels_per_decade) 0 l.initial.row l.row l.k × (l.k ≤ l.count)
