-- `elementary::apply_one_by_one` meets its contract: after i iterations the first i entries are
-- done, and the others are as they were. Assumes nothing.
use native.Mathlib.Omega.{arith}
use lib.Ieee.{nan}
use Rattle.lists.specs.Turned.{turned_none, turned-all}
use Rattle.lists.specs.Runs.{turned-next}
use Rattle.elementary.proofs.apply_one_by_one.Goals as goal

pub loop-x-init : goal.loop-x-init
loop-x-init c = turned_none _ 0 _

pub loop-x-preserved : goal.loop-x-preserved
loop-x-preserved c = turned-next nan c.loop-x.invariant (omega arith) c.value.ensures

pub returns : goal.returns
returns c = turned-all c.loop-x.invariant (omega arith)
