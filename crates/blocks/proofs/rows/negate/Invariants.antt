-- `negate` negates every entry: each entry below the index is negated, and the others are as they were.
-- Assumes nothing.
use lib.Ieee.{neg}
use Rattle.lists.specs.Turned.{Turned}
use Rattle.blocks.proofs.rows.negate.Given as goal

abbrev pub invariant-loop-x : goal.invariant-loop-x
invariant-loop-x l = Turned (λ k held. neg held) 0 l.initial.row l.row l.x-index
