-- `nearest_places` replaces the first `count` entries: each entry below p is the place of the least
-- distance. Assumes nothing.
use mathlib.Core.Logic.{inl}
use native.Mathlib.Omega.{arith}
use lib.Ieee.{nan}
use Rattle.lists.specs.Turned.{turned_none, turned_more, turned-to}
use Rattle.lobe_bounds.proofs.nearest_places.Goals as goal

pub loop-p-init : goal.loop-p-init
loop-p-init c = (turned_none _ _ _, omega arith)

pub loop-p-preserved : goal.loop-p-preserved
loop-p-preserved c = (turned_more nan c.loop-p.invariant.0 (omega arith) c.nearest_place.ensures, omega arith)

pub shape_of-places : goal.shape_of-places
shape_of-places c = c.loop-p.invariant.0.len

pub returns : goal.returns
returns c = turned-to _ c.loop-p.invariant.0 (inl c.loop-p.invariant.1) (omega arith)
