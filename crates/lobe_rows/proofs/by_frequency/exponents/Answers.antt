-- `exponents` replaces the first `count` octaves: of those below k each is the exponent of its
-- bell. Assumes nothing.
use mathlib.Core.Path.{ap}
use mathlib.Core.Logic.{inl}
use native.Mathlib.Omega.{arith}
use lib.Ieee.{Float, nan, binary32, mul}
use Rattle.lists.specs.Turned.{turned_none, turned-to}
use Rattle.lists.specs.Runs.{turned-next}
use Rattle.lobes.specs.Distance.{minus_half}
use Rattle.lobe_rows.proofs.by_frequency.exponents.Goals as goal

pub loop-k-init : goal.loop-k-init
loop-k-init c = (turned_none _ _ _, omega arith)

pub loop-k-preserved : goal.loop-k-preserved
loop-k-preserved c =
    let w = c.in_widths.ensures in
    let s = rw w at c.relative_square.ensures in
    (turned-next nan c.loop-k.invariant.0 (omega arith) (ap (λ (x : Float). mul binary32 minus_half x) s), omega arith)

pub shape_of-chunk : goal.shape_of-chunk
shape_of-chunk c = c.loop-k.invariant.0.len

pub returns : goal.returns
returns c = turned-to _ c.loop-k.invariant.0 (inl c.loop-k.invariant.1) (omega arith)
