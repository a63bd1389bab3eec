-- `manual_gain` is `manual_gain`: a curve point is one of the curve's 8,193. Assumes nothing.
use native.Mathlib.Omega.{arith}
use Rattle.masks.specs.Manual.{manual_gain}
use Rattle.masks.proofs.Points.{point-le}
use Rattle.masks.proofs.manual.manual_gain.Goals as goal

pub offset_bounds-curve-curve_point : goal.offset_bounds-curve-curve_point
offset_bounds-curve-curve_point c = omega (arith, c.curve_point.ensures, point-le c.args.bin c.args.size)

pub bounds-curve-curve_point : goal.bounds-curve-curve_point
bounds-curve-curve_point c =
    let a = c.args in
    omega (arith, c.curve_point.ensures, c.requires, point-le a.bin a.size)

pub returns : goal.returns
unfolding manual_gain
returns c = simp (c.curve_gain.ensures, c.curve_point.ensures)
