-- `limits::slices::pair_in_range` meets its contract: the lesser and the greater decide of both.
-- Assumes nothing.
use mathlib.Core.Path.{◌≡◌, sym, ◌∙◌, subst}
use mathlib.Core.Bool.{cond, ◌&&◌}
use lib.Dec.{T}
use lib.Ieee.{binary32, lt, le}
use Rattle.float32.specs.Order.{within}
use Rattle.limits.proofs.Pairs.{pair-within}
use Rattle.limits.proofs.slices.pair_in_range.Goals.{Start}
use Rattle.limits.proofs.slices.pair_in_range.Goals as goal

-- the arguments are values of f32
decided : (c : Start)
    → let a = c.args in
    (le a.lo (cond (lt a.x a.y) a.x a.y) && le (cond (lt a.x a.y) a.y a.x) a.hi)
    ≡ (within a.lo a.hi a.x && within a.lo a.hi a.y)
decided c =
    let g = c.well_formed in
    pair-within binary32 _ _ (subst T (sym g.1.1.0.1) tt) (subst T (sym g.1.1.1.0.1) tt) _ _ (subst T (sym g.0.1) tt) (subst T (sym g.1.0.1) tt)

pub returns-then-lo-lesser : goal.returns-then-lo-lesser
returns-then-lo-lesser c = simp (← c.greater.ensures, ← c.lesser.ensures, c.if-lo-lesser.true) at (decided c.before.before.before)

pub returns-else-lo-lesser : goal.returns-else-lo-lesser
returns-else-lo-lesser c = c.if-lo-lesser.false ∙ simp (← c.lesser.ensures, c.if-lo-lesser.false) at (decided c.before.before)
