-- `fill_hertz` meets its contract: after b iterations the first b entries are written, and the
-- others are as they were. Assumes nothing.
use Prim.Native.Nat.{◌-◌}
use native.Mathlib.Omega.{arith}
use lib.Ieee.{nan}
use Rattle.lists.specs.Turned.{turned_none, turned_more, turned-fill}
use Rattle.frequencies.proofs.fill_hertz.Goals as goal

pub loop-bin-init : goal.loop-bin-init
loop-bin-init c = (turned_none _ 0 _, omega arith)

pub offset_bounds-table-bin : goal.offset_bounds-table-bin
offset_bounds-table-bin c = omega arith

pub bounds-table-bin : goal.bounds-table-bin
bounds-table-bin c = omega arith

pub loop-bin-preserved : goal.loop-bin-preserved
loop-bin-preserved c = (turned_more nan c.loop-bin.invariant.0 (omega arith) c.hertz.ensures, omega arith)

pub shape_of-table : goal.shape_of-table
shape_of-table c = c.loop-bin.invariant.0.len

pub returns : goal.returns
returns c = turned-fill c.loop-bin.invariant.0 (omega arith)
