-- `greatest_at` finds the greatest: none of the numbers below p is above the one at the index that
-- it keeps. Assumes nothing.
use mathlib.Core.Path.{refl, ◌∙◌}
use native.Mathlib.Omega.{arith}
use Rattle.lobe_bounds.proofs.Columns.{greatest-first, greatest-more, greatest-all}
use Rattle.lobe_bounds.proofs.greatest_at.Goals as goal
use Rattle.lobe_bounds.proofs.greatest_at.Goals.{then-greatest-next, else-greatest-next}

pub loop-p-init : goal.loop-p-init
loop-p-init c = (greatest-first c.args.bounds.now (c.requires.2 0 c.requires.0), (refl, omega arith))

pub loop-p-preserved : goal.loop-p-preserved
loop-p-preserved c =
    let l = c.loop-p in
    let i = l.invariant in
    let j = c.if-greatest-next in
    let more = greatest-more c.args.bounds.now c.args.count l.p l.place l.greatest j.place j.greatest c.requires.2 c.loop-p-test.true i.0 i.1.0 in
    elim j.branch [
      | then-greatest-next w ↦ let m = more (w.place-is ∙ simp w.if-greatest-next.true) (w.greatest-is ∙ simp w.if-greatest-next.true) in (m.0, (m.1, omega arith))
      | else-greatest-next w ↦ let m = more (w.place-is ∙ simp w.if-greatest-next.false) (w.greatest-is ∙ simp w.if-greatest-next.false) in (m.0, (m.1, omega arith))
    ]

pub returns : goal.returns
returns c =
    greatest-all c.args.bounds.now c.args.count c.loop-p.p c.loop-p.place c.loop-p.invariant.1.1 c.loop-p-test.false c.loop-p.invariant.0
