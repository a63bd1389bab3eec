-- `bounds_at_places` replaces the first `count` entries: each entry below p is the bound at the
-- position that was there. Assumes nothing.
use mathlib.Core.Logic.{inl}
use native.Mathlib.Omega.{arith}
use lib.Ieee.{nan}
use Rattle.lists.specs.Turned.{turned_none, turned-to}
use Rattle.lobe_bounds.proofs.Columns.{turned-next}
use Rattle.lobe_bounds.proofs.bounds_at_places.Goals as goal

pub loop-p-init : goal.loop-p-init
loop-p-init c = (turned_none _ _ _, omega arith)

pub loop-p-preserved : goal.loop-p-preserved
loop-p-preserved c = (turned-next nan c.loop-p.invariant.0 (omega arith) c.bound_at.ensures, omega arith)

pub shape_of-bounds : goal.shape_of-bounds
shape_of-bounds c = c.loop-p.invariant.0.len

pub returns : goal.returns
returns c = turned-to _ c.loop-p.invariant.0 (inl c.loop-p.invariant.1) (omega arith)
