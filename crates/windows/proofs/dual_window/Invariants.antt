-- `dual_window` writes the dual at every index: each entry below the index is done, and the others
-- are as they were. Assumes nothing.
use Rattle.lists.specs.Turned.{Turned}
use Rattle.float_laws.specs.Classes.{dual_at}
use Rattle.windows.proofs.dual_window.Given as goal

abbrev pub invariant-loop-index : goal.invariant-loop-index
invariant-loop-index l = Turned (λ i x. dual_at l.analysis l.hop l.overlap i) 0 l.initial.synthesis l.synthesis l.index
