-- `elementary::apply_one_by_one` meets its contract: after i iterations the first i entries are
-- done, and the others are as they were. Assumes nothing.
use Rattle.lists.specs.Turned.{Turned}
use Rattle.elementary.specs.Functions.{value_of}
use Rattle.elementary.proofs.apply_one_by_one.Given as goal

abbrev pub invariant-loop-x : goal.invariant-loop-x
invariant-loop-x l = Turned (λ k x. value_of l.function x) 0 l.initial.xs l.xs l.x-index
