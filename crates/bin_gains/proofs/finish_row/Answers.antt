-- `finish_row` replaces the entries from `start` on and below `end`: each bin before the current
-- one has its gain. Assumes nothing.
use mathlib.Core.Path.{ap}
use mathlib.Core.Logic.{inl}
use native.Mathlib.Omega.{arith}
use lib.Ieee.{nan, binary32, mul}
use Rattle.lists.specs.Turned.{turned_none, turned-to}
use Rattle.lists.specs.Stages.{turned-held}
use borrow.Author.Rules.{rules}
use Rattle.bin_gains.proofs.finish_row.Goals as goal

pub loop-bin-init : goal.loop-bin-init
loop-bin-init c = (turned_none _ _ _, search rules)

pub loop-bin-preserved : goal.loop-bin-preserved
loop-bin-preserved c = (turned-held nan c.loop-bin.invariant.0 (omega arith) (ap (mul binary32 _) c.gate_at.ensures), omega arith)

pub shape_of-out : goal.shape_of-out
shape_of-out c = c.loop-bin.invariant.0.len

pub returns : goal.returns
returns c = turned-to _ c.loop-bin.invariant.0 (inl c.loop-bin.invariant.1) (omega arith)
