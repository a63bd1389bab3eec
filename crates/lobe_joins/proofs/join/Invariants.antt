-- `join`: the bins from `start` on and below the current one are joined, and the others are
-- unchanged. Assumes nothing.
use mathlib.Core.Path.{◌≡◌}
use mathlib.Core.Logic.{◌⊎◌}
use Prim.Native.Nat.{◌-◌, ◌≤◌, min}
use lib.ListN.{length, get_or}
use lib.Ieee.{nan}
use Rattle.lists.specs.Turned.{Turned}
use Rattle.lobe_joins.specs.Joined.{joined}
use Rattle.lobe_joins.proofs.join.Given as goal

abbrev pub invariant-loop-bin : goal.invariant-loop-bin
invariant-loop-bin l =
    Turned (λ bin held. joined l.gain held (get_or l.openings (bin - l.start) nan)) l.start l.initial.out l.out l.bin × (l.stop ≡ min l.end (length l.initial.out)) × ((l.bin ≤ l.stop) ⊎ (l.bin ≡ l.start))
