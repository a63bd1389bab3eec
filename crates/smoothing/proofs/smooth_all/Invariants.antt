-- `smooth_all` moves every gain: each gain below `start` is moved, and the others are as they were
-- (proofs/Rows.antt). Assumes nothing.
use mathlib.Core.Path.{◌≡◌}
use Prim.Native.Nat.{◌≤◌}
use lib.ListN.{length, get_or}
use lib.Ieee.{nan}
use Rattle.lists.specs.Turned.{Turned}
use Rattle.smoothing.specs.Smoothing.{blend_of, toward}
use Rattle.smoothing.proofs.smooth_all.Given as goal

abbrev pub invariant-loop-start : goal.invariant-loop-start
invariant-loop-start l =
    (length l.current_db ≡ 64) × (length l.target_db ≡ 64) × (l.start ≤ length l.initial.current) × Turned (λ b x. toward (blend_of l.elapsed_seconds) x (get_or l.target b nan)) 0 l.initial.current l.current l.start
