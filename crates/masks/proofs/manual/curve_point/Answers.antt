-- `curve_point` is `curve_point`: half of size / 2 is size / 4, and where size / 2 is 0 the quotient
-- counts as 0. Assumes nothing.
use mathlib.Core.Path.{sym}
use native.Mathlib.Omega.{arith}
use Rattle.masks.specs.Manual.{curve_point}
use Rattle.masks.proofs.Points.{halved, point-of-none}
use Rattle.masks.proofs.manual.curve_point.Goals as goal

pub returns-then-source_bins-eq0 : goal.returns-then-source_bins-eq0
returns-then-source_bins-eq0 c = sym (point-of-none c.args.bin c.args.size (omega arith))

pub returns : goal.returns
unfolding curve_point
returns c = simp (c.min-2.ensures, c.min.ensures, halved)
