-- `lines` replaces the first `count` parts: of those below k each is the line from its own entry.
-- Assumes nothing.
use mathlib.Core.Logic.{inl}
use native.Mathlib.Omega.{arith}
use lib.Ieee.{nan}
use Rattle.lists.specs.Turned.{turned_none, turned-to}
use Rattle.lists.specs.Runs.{turned-next}
use Rattle.lobe_rows.proofs.chunk.lines.Goals as goal

pub loop-k-init : goal.loop-k-init
loop-k-init c = (turned_none _ _ _, omega arith)

pub line-requires : goal.line-requires
line-requires c =
    c.requires.1 c.loop-k.k c.loop-k-test.true

pub loop-k-preserved : goal.loop-k-preserved
loop-k-preserved c = (turned-next nan c.loop-k.invariant.0 (omega arith) c.line.ensures, omega arith)

pub shape_of-chunk : goal.shape_of-chunk
shape_of-chunk c = c.loop-k.invariant.0.len

pub returns : goal.returns
returns c = turned-to _ c.loop-k.invariant.0 (inl c.loop-k.invariant.1) (omega arith)
