-- `scaled` replaces the first `count` entries: each logarithm below k is in decibels.
-- Assumes nothing.
use Prim.Native.Nat.{◌≤◌}
use lib.Ieee.{binary32, mul}
use Rattle.lists.specs.Turned.{Turned}
use Rattle.float32.specs.Constants.{log10_2}
use Rattle.decibels.specs.Gain.{decibels_per_decade}
use Rattle.smoothing.proofs.scaled.Given as goal

abbrev pub invariant-loop-k : goal.invariant-loop-k
invariant-loop-k l = Turned (λ k log. mul binary32 decibels_per_decade (mul binary32 log log10_2)) 0 l.initial.row l.row l.k × (l.k ≤ l.count)
