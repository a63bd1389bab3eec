-- `raise_partials` joins the lobes to a row of zeros, the one at `top` first: what is left to join
-- makes of the row what all of them make of it, and joining the first again would change nothing.
-- Assumes nothing.
use mathlib.Core.Path.{◌≡◌}
use Prim.Native.Nat.{◌-◌, ◌≤◌, ◌<◌}
use lib.ListN.{length}
use Rattle.blocks.specs.Least.{Least}
use Rattle.block_rows.specs.Most.{SoundLobes}
use Rattle.block_rows.proofs.MostOpen.{Joining}
use Rattle.block_rows.proofs.raise_partials.Given as goal

abbrev pub invariant-loop-p : goal.invariant-loop-p
invariant-loop-p l =
    (length l.lobes ≡ 24)
    × (length l.row ≡ 64)
    × (length l.chunk ≡ 64)
    × (length l.indexes ≡ 64)
    × (l.p ≤ l.count)
    × Least l.least 0 64 l.row
    × ((sound : SoundLobes l.grid l.lobes l.count) (few : l.count ≤ length l.lobes) (inside : l.top < l.count) → Joining l.grid l.table l.lobes l.count sound few l.start l.end l.top inside l.p l.row)
