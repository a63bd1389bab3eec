-- `finish_two` meets its contract: on either side each bin below `start` has its gain, and the
-- others their openness. Assumes nothing.
use mathlib.Core.Path.{◌≡◌}
use Prim.Native.Nat.{◌≤◌}
use lib.ListN.{length}
use Rattle.lists.specs.Turned.{Turned}
use Rattle.bin_gains.specs.Gains.{gain_at}
use Rattle.bin_gains.proofs.finish_two.Given as goal

abbrev pub invariant-loop-start : goal.invariant-loop-start
invariant-loop-start l =
    (length l.row ≡ 256) × (length l.field ≡ 256) × (l.start ≤ length l.initial.left) × Turned (gain_at l.curve l.config) 0 l.initial.left l.left l.start × Turned (gain_at l.curve l.config) 0 l.initial.right l.right l.start
