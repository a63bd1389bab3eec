-- `make_ready` replaces the entries from `start` on: each entry below i is ready. Assumes nothing.
use mathlib.Core.Logic.{inl}
use native.Mathlib.Omega.{arith}
use lib.Ieee.{nan}
use Rattle.lists.specs.Turned.{turned_none, turned-to}
use Rattle.lists.specs.Stages.{turned-held}
use Rattle.power_rows.proofs.log2.make_ready.Goals as goal

pub loop-i-init : goal.loop-i-init
loop-i-init c = (turned_none _ _ _, c.requires.0)

pub loop-i-preserved : goal.loop-i-preserved
loop-i-preserved c = (turned-held nan c.loop-i.invariant.0 (omega arith) c.ready.ensures, omega arith)

pub shape_of-row : goal.shape_of-row
shape_of-row c = c.loop-i.invariant.0.len

pub returns : goal.returns
returns c = turned-to _ c.loop-i.invariant.0 (inl c.loop-i.invariant.1) (omega arith)
