-- `raise_blocks` walks from the block of the first bin that a lobe reaches to that of the last: on
-- each side the bins below the current block are raised. Assumes nothing.
use mathlib.Core.Path.{◌≡◌}
use Prim.Native.Nat.{◌+◌, ◌*◌, ◌-◌, ◌≤◌, min}
use lib.ListN.{length, take}
use Rattle.blocks.specs.Ends.{block_of}
use Rattle.lobes.specs.Distance.{lent}
use Rattle.lobe_joins.specs.Joined.{lobes_joined}
use Rattle.block_rows.specs.Most.{Opennesses}
use Rattle.block_walk.proofs.BlockWalk.{Walked}
use Rattle.block_walk.proofs.compact.raise_blocks.Given as goal

abbrev pub invariant-loop-block : goal.invariant-loop-block
invariant-loop-block l =
    (l.block ≤ 128)
    × (length l.chunk ≡ 64)
    × (length l.indexes ≡ 64)
    × (length l.bounds ≡ 24)
    × (length l.lobes ≡ 24)
    × Opennesses l.first
    × Opennesses l.second
    × Walked (lobes_joined l.grid (lent l.table) l.gains.first (take l.count l.lobes)) (1 + 64 * block_of (min l.fn.span.first_bin l.fn.span.last_bin)) (length l.table) l.block l.initial.first l.first
    × Walked (lobes_joined l.grid (lent l.table) l.gains.second (take l.count l.lobes)) (1 + 64 * block_of (min l.fn.span.first_bin l.fn.span.last_bin)) (length l.table) l.block l.initial.second l.second
