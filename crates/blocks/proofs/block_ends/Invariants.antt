-- `block_ends` finds the ends of every block: at the head of the loop those of the blocks before
-- the current one are written. Assumes nothing.
use mathlib.Core.Path.{◌≡◌}
use Prim.Native.Nat.{◌+◌, ◌*◌, ◌/◌}
use lib.ListN.{length}
use Rattle.blocks.proofs.Walk.{Ended}
use Rattle.blocks.proofs.block_ends.Given as goal

abbrev pub invariant-loop-start : goal.invariant-loop-start
invariant-loop-start l = (l.start ≡ 1 + 64 * (l.start / 64)) × (length l.lows ≡ length l.initial.lows) × (length l.highs ≡ length l.initial.highs) × (length l.row ≡ length l.initial.row) × Ended (l.start / 64) l.table l.lows l.highs
