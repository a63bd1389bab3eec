-- `is_level` says yes only where its one loop saw no other number. Assumes nothing.
use mathlib.Core.Path.{◌≡◌, refl, sym}
use mathlib.Core.Bool.{Bool, true, false, not, true≢false}
use native.Mathlib.Omega.{arith}
use Rattle.decibels.proofs.rows.is_level.Goals as goal

was-false : (b : Bool) → not b ≡ true → b ≡ false
was-false true e = sym e
was-false false e = refl

pub returns-then-count-eq0 : goal.returns-then-count-eq0
returns-then-count-eq0 c e = absurd (true≢false (sym e))

pub returns-then-row-count : goal.returns-then-row-count
returns-then-row-count c e = absurd (true≢false (sym e))

pub returns : goal.returns
returns c e = (omega arith, c.differs.ensures (was-false _ e))
