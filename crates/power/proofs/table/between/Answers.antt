-- `between` meets its contract: the two entries never fall and are at most 2 ^ 31, so nothing
-- wraps, and the mask and the shift are the remainder and the quotient by 2 ^ low_bits.
-- Assumes nothing.
use Prim.Native.Nat.{◌^◌, ◌≤◌}
use native.Mathlib.Omega.{arith}
use Rattle.lists.specs.Interpolation.{product-fits, sum_fits, interpolated}
use Rattle.power.specs.Table.{low_bits, P}
use Rattle.power.proofs.Rules.{P-rule}
use Rattle.power.proofs.Interpolated.{step-up, step-top}
use Rattle.power.proofs.table.between.Goals.{Start}
use Rattle.power.proofs.table.between.Goals as goal

up : (c : Start) → c.args.a ≤ c.args.b
up c = rw (c.requires.1, c.requires.2) (step-up P-rule c.args.f c.requires.0)

top : (c : Start) → c.args.b ≤ 2 ^ 31
top c = rw c.requires.2 (step-top P-rule c.args.f c.requires.0)

pub overflow_sub-result : goal.overflow_sub-result
overflow_sub-result c = up c

pub overflow_mul-result : goal.overflow_mul-result
overflow_mul-result c = record { fits = product-fits low_bits P c.args.f c.args.a c.args.b (omega arith) c.requires.1 c.requires.2 (up c) (top c) }

pub overflow_add-result : goal.overflow_add-result
overflow_add-result c = record { fits = sum_fits low_bits P c.args.f c.args.a c.args.b (omega arith) c.requires.1 c.requires.2 (up c) (top c) }

pub returns : goal.returns
returns c = interpolated low_bits P c.args.f c.args.a c.args.b (omega arith) c.requires.1 c.requires.2 (up c) (top c)
