-- `differs` has seen no other number: each entry below k is the number, as floats compare. Assumes
-- nothing.
use Prim.Native.Nat.{◌-◌}
use native.Mathlib.Omega.{arith}
use Rattle.decibels.proofs.Level.{equal-more}
use Rattle.decibels.proofs.rows.differs.Goals as goal

pub loop-k-init : goal.loop-k-init
loop-k-init c = (λ e j h. absurd (omega arith), omega arith)

pub loop-k-preserved : goal.loop-k-preserved
loop-k-preserved c =
    (equal-more c.args.row.now c.args.first c.loop-k.k c.loop-k.other c.loop-k.invariant.0, omega arith)

pub returns : goal.returns
returns c e k h = c.loop-k.invariant.0 e k (omega arith)
