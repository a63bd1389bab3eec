-- `lobes_of` computes every lobe: those below the current index are done. Assumes nothing.
use Prim.Native.Nat.{◌≤◌}
use Rattle.lists.specs.Turned.{Turned}
use Rattle.lobes.specs.Distance.{logs_of}
use Rattle.tone_lobes.proofs.Listed.{nth}
use Rattle.tone_lobes.proofs.lobes_of.Given as goal

abbrev pub invariant-loop-p : goal.invariant-loop-p
invariant-loop-p l = Turned (nth l.grid (logs_of l.table) l.tone) 0 l.initial.lobes l.lobes l.p × (l.p ≤ l.count) × (l.count ≤ 24)
