-- `soften_row` replaces the bins from `start` on: each bin before the current one is softened.
-- Assumes nothing.
use Prim.Native.Nat.{◌+◌, ◌-◌, ◌≤◌}
use lib.ListN.{get_or}
use lib.Ieee.{nan}
use Rattle.lists.specs.Turned.{Turned}
use Rattle.smoothing.specs.Smoothing.{softened}
use Rattle.smoothing.proofs.soften_row.Given as goal

abbrev pub invariant-loop-bin : goal.invariant-loop-bin
invariant-loop-bin l =
    Turned (λ b x. softened (get_or l.row (b - l.start) nan) (get_or l.row (b - l.start + 1) nan) (get_or l.row (b - l.start + 2) nan)) l.start l.initial.output l.output l.bin × (l.bin ≤ l.stop)
