-- `halve` replaces the first `count` numbers: each entry below k is the smaller of the two, and the
-- others, among them all that are still to be read, are as they were. Assumes nothing.
use mathlib.Core.Logic.{inl}
use Prim.Native.Nat.{◌+◌}
use native.Mathlib.Omega.{arith}
use lib.Ieee.{nan}
use Rattle.lists.specs.Turned.{turned_none, turned_more, turned-to}
use Rattle.blocks.proofs.Halved.{unreached}
use Rattle.blocks.proofs.rows.halve.Goals as goal

pub loop-k-init : goal.loop-k-init
loop-k-init c = (turned_none _ _ _, omega arith)

pub loop-k-preserved : goal.loop-k-preserved
loop-k-preserved c =
    let t = c.loop-k.invariant.0 in
    let k = c.loop-k.k in
    let n = c.args.count in
    (turned_more nan t (omega arith) (rw (← unreached nan k t (omega arith) (omega arith), ← unreached nan (k + n) t (omega arith) (omega arith)) c.lesser.ensures), omega arith)

pub shape_of-row : goal.shape_of-row
shape_of-row c = c.loop-k.invariant.0.len

pub returns : goal.returns
returns c = turned-to _ c.loop-k.invariant.0 (inl c.loop-k.invariant.1) (omega arith)
