-- `soften_row` replaces the bins from `start` on: each bin before the current one is softened.
-- Assumes nothing.
use mathlib.Core.Logic.{inl}
use native.Mathlib.Omega.{arith}
use lib.Ieee.{nan}
use borrow.Author.Rules.{rules}
use Rattle.lists.specs.Turned.{turned_none, turned_more, turned-to}
use Rattle.smoothing.proofs.soften_row.Goals as goal

pub loop-bin-init : goal.loop-bin-init
loop-bin-init c = (turned_none _ _ _, search rules)

pub overflow_sub-k : goal.overflow_sub-k
overflow_sub-k c = c.loop-bin.invariant.0.low

pub loop-bin-preserved : goal.loop-bin-preserved
loop-bin-preserved c = (turned_more nan c.loop-bin.invariant.0 (omega arith) c.softened.ensures, omega arith)

pub shape_of-output : goal.shape_of-output
shape_of-output c = c.loop-bin.invariant.0.len

pub returns : goal.returns
returns c = turned-to _ c.loop-bin.invariant.0 (inl c.loop-bin.invariant.1) (omega arith)
