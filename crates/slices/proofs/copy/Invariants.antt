-- `copy` leaves the source in the output: each entry below the index is the source's, and at the
-- end that is all of them. Assumes nothing.
use lib.ListN.{get_or}
use lib.Ieee.{nan}
use Rattle.lists.specs.Turned.{Turned}
use Rattle.slices.proofs.copy.Given as goal

abbrev pub invariant-loop-index : goal.invariant-loop-index
invariant-loop-index l = Turned (λ k x. get_or l.source k nan) 0 l.initial.output l.output l.index
