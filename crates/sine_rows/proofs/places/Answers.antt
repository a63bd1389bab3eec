-- `places` fills the first `count` entries: each entry below k is what `place_ahead` ensures of its
-- angle. Assumes nothing.
use mathlib.Core.Logic.{inl}
use native.Mathlib.Omega.{arith}
use Rattle.lists.specs.Turned.{turned_none, turned_more, turned-to}
use Rattle.sine_rows.proofs.places.Goals as goal

pub loop-k-init : goal.loop-k-init
loop-k-init c = (turned_none _ _ _, omega arith)

pub loop-k-preserved : goal.loop-k-preserved
loop-k-preserved c = (turned_more 0 c.loop-k.invariant.0 (omega arith) c.place_ahead.ensures, omega arith)

pub shape_of-found : goal.shape_of-found
shape_of-found c = c.loop-k.invariant.0.len

pub returns : goal.returns
returns c = turned-to _ c.loop-k.invariant.0 (inl c.loop-k.invariant.1) (omega arith)
