-- `finish` replaces `count` numbers from `start` on: each entry below i is the power that
-- `power_of` ensures. Assumes nothing.
use Prim.Native.Nat.{◌+◌, ◌≤◌}
use Rattle.lists.specs.Turned.{Turned}
use Rattle.power.specs.Power.{E2}
use Rattle.power_rows.proofs.exp2.finish.Given as goal

abbrev pub invariant-loop-i : goal.invariant-loop-i
invariant-loop-i l = Turned (λ i x. E2 x) l.start l.initial.row l.row l.i × (l.i ≤ l.start + l.count)
