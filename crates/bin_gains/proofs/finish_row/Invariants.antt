-- `finish_row` replaces the entries from `start` on and below `end`: each bin before the current
-- one has its gain. Assumes nothing.
use Prim.Native.Nat.{◌-◌, ◌≤◌}
use lib.ListN.{get_or}
use lib.Ieee.{nan, binary32, mul}
use Rattle.lists.specs.Turned.{Turned}
use Rattle.bin_gains.specs.Gains.{gate_at}
use Rattle.bin_gains.proofs.finish_row.Given as goal

abbrev pub invariant-loop-bin : goal.invariant-loop-bin
invariant-loop-bin l = Turned (λ bin opened. mul binary32 (get_or l.ceilings (bin - l.start) nan) (gate_at l.config opened)) l.start l.initial.out l.out l.bin × (l.bin ≤ l.end)
