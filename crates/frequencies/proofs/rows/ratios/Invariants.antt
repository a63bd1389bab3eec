-- `ratios` replaces the first `count` entries: each entry below k is its bin's frequency, divided.
-- Assumes nothing.
use Prim.Native.Nat.{◌+◌, ◌-◌, ◌≤◌}
use lib.Ieee.{binary32, div}
use Rattle.lists.specs.Turned.{Turned}
use Rattle.frequencies.specs.Frequency.{hertz}
use Rattle.frequencies.proofs.rows.ratios.Given as goal

abbrev pub invariant-loop-k : goal.invariant-loop-k
invariant-loop-k l = Turned (λ k held. div binary32 (hertz l.bin_hz (l.start + k)) l.over) 0 l.initial.row l.row l.k × (l.k ≤ l.count)
