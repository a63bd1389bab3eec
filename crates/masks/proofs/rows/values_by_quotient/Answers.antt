-- `values_by_quotient` replaces the first `count` entries: each entry below k is the curve value
-- that its bin reads. Assumes nothing.
use mathlib.Core.Logic.{inl}
use Prim.Native.Nat.{◌+◌, ◌-◌}
use native.Mathlib.Omega.{arith}
use lib.Ieee.{nan}
use Rattle.lists.specs.Turned.{turned_none, turned_more, turned-to}
use mathlib.Core.Path.{ap}
use lib.ListN.{get_or}
use Rattle.masks.specs.Manual.{curve_point}
use Rattle.masks.proofs.Points.{point-le}
use Rattle.masks.proofs.rows.values_by_quotient.Goals as goal

pub loop-k-init : goal.loop-k-init
loop-k-init c = (turned_none _ _ _, omega arith)

pub offset_bounds-curve-curve_point : goal.offset_bounds-curve-curve_point
offset_bounds-curve-curve_point c =
    let a = c.args in
    omega (arith, c.curve_point.ensures, point-le (a.start + c.loop-k.k) a.size)

pub bounds-curve-curve_point : goal.bounds-curve-curve_point
bounds-curve-curve_point c =
    omega (arith, c.curve_point.ensures, c.requires.0, point-le (c.args.start + c.loop-k.k) c.args.size)

pub loop-k-preserved : goal.loop-k-preserved
loop-k-preserved c =
    let curve = c.args.curve.now in
    (turned_more nan c.loop-k.invariant.0 (omega arith) (ap (λ i. get_or curve i nan) c.curve_point.ensures), omega arith)

pub shape_of-row : goal.shape_of-row
shape_of-row c = c.loop-k.invariant.0.len

pub returns : goal.returns
returns c = turned-to _ c.loop-k.invariant.0 (inl c.loop-k.invariant.1) (omega arith)
