-- `negate` negates every entry: each entry below the index is negated, and the others are as they were.
-- Assumes nothing.
use mathlib.Core.Path.{ap}
use native.Mathlib.Omega.{arith}
use lib.Ieee.{nan, neg}
use Rattle.lists.specs.Turned.{turned_none, turned_more, turned-read, turned-all}
use Rattle.blocks.proofs.rows.negate.Goals as goal

pub loop-x-init : goal.loop-x-init
loop-x-init c = turned_none _ _ _

pub loop-x-preserved : goal.loop-x-preserved
loop-x-preserved c =
    let t = c.loop-x.invariant in
    turned_more nan t (omega arith) (ap neg (turned-read nan t (omega arith)))

pub shape_of-row : goal.shape_of-row
shape_of-row c = c.loop-x.invariant.len

pub returns : goal.returns
returns c = turned-all c.loop-x.invariant (omega arith)
