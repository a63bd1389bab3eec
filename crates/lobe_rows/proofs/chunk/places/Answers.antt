-- `places` replaces the first `count` entries: of those below k each is a place, by the distance
-- that the table gives. Assumes nothing.
use mathlib.Core.Logic.{inl}
use native.Mathlib.Omega.{arith}
use lib.Ieee.{nan}
use Rattle.lists.specs.Turned.{turned_none, turned_more, turned-to}
use Rattle.lobe_rows.proofs.chunk.places.Goals as goal

pub loop-k-init : goal.loop-k-init
loop-k-init c = (turned_none _ _ _, omega arith)

pub loop-k-preserved : goal.loop-k-preserved
loop-k-preserved c = (turned_more nan c.loop-k.invariant.0 (omega arith) (rw (← c.distance_by_table.ensures) c.place_of.ensures), omega arith)

pub shape_of-chunk : goal.shape_of-chunk
shape_of-chunk c = c.loop-k.invariant.0.len

pub returns : goal.returns
returns c = turned-to _ c.loop-k.invariant.0 (inl c.loop-k.invariant.1) (omega arith)
