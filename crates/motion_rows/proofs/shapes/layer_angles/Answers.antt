-- `layer_angles` fills the first `count` entries of each layer: each entry below k is the angle at
-- its place. Assumes nothing.
use mathlib.Core.Logic.{inl}
use native.Mathlib.Omega.{arith}
use lib.Ieee.{nan}
use Rattle.lists.specs.Turned.{turned_none, turned_more, turned-to}
use Rattle.motion_rows.proofs.shapes.layer_angles.Goals as goal

pub loop-k-init : goal.loop-k-init
loop-k-init c = (turned_none _ _ _, turned_none _ _ _, turned_none _ _ _, omega arith)

pub loop-k-preserved : goal.loop-k-preserved
loop-k-preserved c =
    let l = c.loop-k in (
      turned_more nan l.invariant.0 (omega arith) c.broad_angle.ensures,
      turned_more nan l.invariant.1 (omega arith) c.middle_angle.ensures,
      turned_more nan l.invariant.2 (omega arith) c.detail_angle.ensures,
      omega arith,
    )

pub shape_of-broad : goal.shape_of-broad
shape_of-broad c = c.loop-k.invariant.0.len

pub shape_of-middle : goal.shape_of-middle
shape_of-middle c = c.loop-k.invariant.1.len

pub shape_of-detail : goal.shape_of-detail
shape_of-detail c = c.loop-k.invariant.2.len

pub returns : goal.returns
returns c =
    let l = c.loop-k in (
      turned-to _ l.invariant.0 (inl l.invariant.3) (omega arith),
      turned-to _ l.invariant.1 (inl l.invariant.3) (omega arith),
      turned-to _ l.invariant.2 (inl l.invariant.3) (omega arith),
    )
