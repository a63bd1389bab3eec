-- `openings_of_bells` replaces the first `count` bells: of those below k each is what the lobe
-- opens under it. Assumes nothing.
use mathlib.Core.Logic.{inl}
use native.Mathlib.Omega.{arith}
use lib.Ieee.{nan}
use Rattle.lists.specs.Turned.{turned_none, turned-to}
use Rattle.lists.specs.Runs.{turned-next}
use Rattle.lobe_rows.proofs.chunk.openings_of_bells.Goals as goal

pub loop-k-init : goal.loop-k-init
loop-k-init c = (turned_none _ _ _, omega arith)

pub loop-k-preserved : goal.loop-k-preserved
loop-k-preserved c = (turned-next nan c.loop-k.invariant.0 (omega arith) c.opened_by.ensures, omega arith)

pub shape_of-chunk : goal.shape_of-chunk
shape_of-chunk c = c.loop-k.invariant.0.len

pub returns : goal.returns
returns c = turned-to _ c.loop-k.invariant.0 (inl c.loop-k.invariant.1) (omega arith)
