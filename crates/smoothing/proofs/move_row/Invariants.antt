-- `move_row` replaces the entries from `start` on: each entry below i is moved toward its target.
-- Assumes nothing.
use Prim.Native.Nat.{◌-◌, ◌≤◌}
use lib.ListN.{get_or}
use lib.Ieee.{nan}
use Rattle.lists.specs.Turned.{Turned}
use Rattle.smoothing.specs.Smoothing.{decibels_of, nearer}
use Rattle.smoothing.proofs.move_row.Given as goal

abbrev pub invariant-loop-i : goal.invariant-loop-i
invariant-loop-i l =
    Turned (λ i x. nearer l.blend (decibels_of x) (get_or l.target_db (i - l.start) nan)) l.start l.initial.current l.current l.i × (l.i ≤ l.stop)
