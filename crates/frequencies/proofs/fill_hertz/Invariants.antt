-- `fill_hertz` meets its contract: after b iterations the first b entries are written, and the
-- others are as they were. Assumes nothing.
use Prim.Native.Nat.{◌≤◌, ◌-◌}
use lib.ListN.{length}
use Rattle.lists.specs.Turned.{Turned}
use Rattle.frequencies.specs.Frequency.{hertz_or_zero}
use Rattle.frequencies.proofs.fill_hertz.Given as goal

abbrev pub invariant-loop-bin : goal.invariant-loop-bin
invariant-loop-bin l = Turned (λ b x. hertz_or_zero l.bin_hz b) 0 l.initial.table l.table l.bin × (l.bin ≤ length l.initial.table)
