-- `levels` replaces `count` angles from `start` on: each entry below i is what `level` ensures of
-- its place and value. Assumes nothing.
use Prim.Native.Nat.{◌+◌, ◌-◌, ◌≤◌}
use lib.ListN.{get_or}
use Rattle.lists.specs.Turned.{Turned}
use Rattle.sine.specs.Rows.{level_at}
use Rattle.sine_rows.proofs.levels.Given as goal

abbrev pub invariant-loop-i : goal.invariant-loop-i
invariant-loop-i l =
    Turned (λ i held. level_at (get_or l.places (i - l.start) 0) (get_or l.values (i - l.start) 0)) l.start l.initial.row l.row l.i × (l.i ≤ l.start + l.count)
