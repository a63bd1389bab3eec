-- `soften_inside` softens every bin with two neighbours: each bin below `start` is done
-- (proofs/Rows.antt). Assumes nothing.
use mathlib.Core.Path.{◌≡◌}
use Prim.Native.Nat.{◌≤◌}
use lib.ListN.{length}
use Rattle.lists.specs.Turned.{Turned}
use Rattle.smoothing.specs.Smoothing.{softened_at}
use Rattle.smoothing.proofs.soften_inside.Given as goal

abbrev pub invariant-loop-start : goal.invariant-loop-start
invariant-loop-start l = (length l.row ≡ 64) × (l.start ≤ l.last) × Turned (λ b x. softened_at l.source b) 1 l.initial.output l.output l.start
