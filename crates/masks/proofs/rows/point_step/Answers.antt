-- `point_step` is 0, or its product with the bins is the number of points, as its last test says.
-- Assumes nothing.
use mathlib.Core.Path.{refl}
use mathlib.Core.Logic.{inl, inr}
use Prim.Native.Nat.{◌/◌}
use native.Mathlib.Nat.{div-le_self, div-mul-le_self}
use native.Mathlib.Omega.{arith}
use Rattle.limits.specs.Lengths.{last_point}
use Rattle.masks.proofs.rows.point_step.Goals as goal

pub returns-then-source_bins-eq0 : goal.returns-then-source_bins-eq0
returns-then-source_bins-eq0 c = (omega arith, inl refl)

pub overflow_mul-step : goal.overflow_mul-step
overflow_mul-step c = omega (arith, div-mul-le_self last_point (c.args.size / 2))

pub returns-then-step-source_bins-eq-LAST_POINT : goal.returns-then-step-source_bins-eq-LAST_POINT
returns-then-step-source_bins-eq-LAST_POINT c = (div-le_self last_point (c.args.size / 2), inr c.if-step-source_bins-eq-LAST_POINT.true)

pub returns : goal.returns
returns c = (omega arith, inl refl)
