-- `levels` replaces `count` angles from `start` on: each entry below i is what `level` ensures of
-- its place and value. Assumes nothing.
use mathlib.Core.Logic.{inl}
use Prim.Native.Nat.{◌-◌}
use native.Mathlib.Omega.{arith}
use lib.Ieee.{nan}
use Rattle.lists.specs.Turned.{turned_none, turned_more, turned-to}
use Rattle.sine_rows.proofs.levels.Goals as goal

pub loop-i-init : goal.loop-i-init
loop-i-init c = (turned_none _ _ _, omega arith)

pub level-requires : goal.level-requires
level-requires c =
    c.requires.3 (c.loop-i.i - c.args.start) (omega (arith, c.loop-i.invariant.0.low))

pub loop-i-preserved : goal.loop-i-preserved
loop-i-preserved c = (turned_more nan c.loop-i.invariant.0 (omega arith) c.level.ensures, omega arith)

pub shape_of-row : goal.shape_of-row
shape_of-row c = c.loop-i.invariant.0.len

pub returns : goal.returns
returns c = turned-to _ c.loop-i.invariant.0 (inl c.loop-i.invariant.1) (omega arith)
