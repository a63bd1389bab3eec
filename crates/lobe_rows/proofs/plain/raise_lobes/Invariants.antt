-- `raise_lobes`: joining the lobes from the current one on to what the bins hold now gives what
-- joining all of them to what the bins held at entry gives. Assumes nothing.
use mathlib.Core.Path.{◌≡◌}
use lib.ListN.{length, take}
use Rattle.lists.specs.Maps.{map_at}
use Rattle.lobes.specs.Distance.{logs_of}
use Rattle.lobe_joins.specs.Joined.{lobes_joined}
use Rattle.lobe_rows.proofs.EachLobe.{lobes-from}
use Rattle.lobe_rows.proofs.plain.raise_lobes.Given as goal

abbrev pub invariant-loop-p : goal.invariant-loop-p
invariant-loop-p l =
    (length l.lobes ≡ 24)
    × (length l.first ≡ length l.initial.first)
    × (length l.second ≡ length l.initial.second)
    × (length l.chunk ≡ length l.initial.chunk)
    × (length l.indexes ≡ length l.initial.indexes)
    × (lobes-from l.grid (logs_of l.table) l.gains.first l.lobes l.count l.p l.first ≡ map_at (lobes_joined l.grid (logs_of l.table) l.gains.first (take l.count l.lobes)) l.initial.first)
    × (lobes-from l.grid (logs_of l.table) l.gains.second l.lobes l.count l.p l.second ≡ map_at (lobes_joined l.grid (logs_of l.table) l.gains.second (take l.count l.lobes)) l.initial.second)
