-- `shifted` meets its contract: the dropped bits are set to round up. Assumes nothing.
use native.Mathlib.Omega.{arith}
use lib.Pow.{pow_pos}
use Rattle.counts.proofs.Whole.{one_shifted}
use Rattle.counts.proofs.shifted.Goals as goal

pub overflow_sub-result : goal.overflow_sub-result
overflow_sub-result c = rw (one_shifted c.args.places c.requires.1).0 (pow_pos c.args.places)

pub overflow_add-result : goal.overflow_add-result
overflow_add-result c = let w = one_shifted c.args.places c.requires.1 in record { fits = rw w.0 (omega arith) }

pub returns-then-up : goal.returns-then-up
returns-then-up c = rw ((one_shifted c.args.places c.requires.1).0, c.if-up.true)

pub returns : goal.returns
returns c = rw c.if-up.false
