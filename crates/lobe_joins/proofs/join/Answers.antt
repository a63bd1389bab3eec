-- `join`: the bins from `start` on and below the current one are joined, and the others are
-- unchanged. Assumes nothing.
use mathlib.Core.Path.{refl}
use mathlib.Core.Logic.{inl, inr}
use Prim.Native.Nat.{◌-◌}
use native.Mathlib.Omega.{arith}
use lib.Ieee.{nan}
use Rattle.lists.specs.Turned.{turned_none}
use Rattle.lobe_joins.specs.Joined.{joined}
use Rattle.lists.specs.Runs.{turned-within, turned-next}
use Rattle.lobe_joins.proofs.join.Goals as goal

pub loop-bin-init : goal.loop-bin-init
loop-bin-init c = (turned_none _ _ _, c.min-stop.ensures, inr refl)

pub loop-bin-preserved : goal.loop-bin-preserved
loop-bin-preserved c =
    let l = c.loop-bin in
    (turned-next nan l.invariant.0 (omega arith) c.joined.ensures, l.invariant.1, inl (omega arith))

pub shape_of-out : goal.shape_of-out
shape_of-out c = c.loop-bin.invariant.0.len

pub returns : goal.returns
returns c =
    let l = c.loop-bin in
    turned-within _ _ l.invariant.0 l.invariant.1 l.invariant.2 (omega arith)
