-- `raise_lobe`: on each side every bin from the lobe's first on and below `start` is joined, and
-- the chunk holds the openings of the next ones. Assumes nothing.
use mathlib.Core.Path.{◌≡◌}
use mathlib.Core.Logic.{◌⊎◌}
use Prim.Native.Nat.{◌+◌, ◌≤◌}
use lib.ListN.{length}
use Rattle.lists.specs.Turned.{Turned}
use Rattle.lobes.specs.Distance.{logs_of}
use Rattle.lobe_rows.proofs.Walk.{reached}
use Rattle.lobe_rows.proofs.plain.raise_lobe.Given as goal

abbrev pub invariant-loop-start : goal.invariant-loop-start
invariant-loop-start l =
    (length l.chunk ≡ length l.initial.chunk)
    × (length l.indexes ≡ length l.initial.indexes)
    × ((l.start ≤ l.lobe.last_bin + 1) ⊎ (l.start ≡ l.lobe.first_bin))
    × Turned (reached l.grid (logs_of l.table) l.lobe l.gains.first) l.lobe.first_bin l.initial.first l.first l.start
    × Turned (reached l.grid (logs_of l.table) l.lobe l.gains.second) l.lobe.first_bin l.initial.second l.second l.start
