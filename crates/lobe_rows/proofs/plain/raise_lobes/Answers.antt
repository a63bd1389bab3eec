-- `raise_lobes`: joining the lobes from the current one on to what the bins hold now gives what
-- joining all of them to what the bins held at entry gives. Assumes nothing.
use mathlib.Core.Path.{refl, sym, ◌∙◌}
use Prim.Native.Nat.{◌≤◌}
use native.Mathlib.Nat.{lt_of_le_of_lt}
use native.Mathlib.Omega.{arith}
use lib.ListN.{length}
use Rattle.lobes.proofs.Lent.{if-lent}
use Rattle.lobe_rows.proofs.EachLobe.{lobes-all, lobes-next, lobes-end}
use borrow.Author.Rules.{rules}
use Rattle.lobe_rows.proofs.plain.raise_lobes.Goals as goal

pub loop-p-init : goal.loop-p-init
loop-p-init c =
    let a = c.args in
    (search rules, refl, refl, refl, refl, lobes-all _ _ _ a.lobes a.count a.first.now, lobes-all _ _ _ a.lobes a.count a.second.now)

pub offset_bounds-lobes-p : goal.offset_bounds-lobes-p
offset_bounds-lobes-p c = omega arith

pub bounds-lobes-p : goal.bounds-lobes-p
bounds-lobes-p c = omega (arith, c.loop-p-test.true, c.requires.1.few)

pub raise_lobe-requires : goal.raise_lobe-requires
raise_lobe-requires c =
    let w = c.requires.1.known c.loop-p.p c.loop-p-test.true in
    let g = c.requires.1.on-grid in (
      record { chunk-64 = c.loop-p.invariant.3 ∙ c.requires.0.chunk-64; indexes-64 = c.loop-p.invariant.4 ∙ c.requires.0.indexes-64 },
      record { log-of-center = w.0; last = omega (arith, w.1, g.last); inside = if-lent _ g.inside (λ table e inside. lt_of_le_of_lt w.1 inside) },
    )

pub loop-p-preserved : goal.loop-p-preserved
loop-p-preserved c =
    let some : c.args.count ≤ length c.args.lobes = omega (arith, c.requires.1.few, c.loop-p.invariant.0) in (
      c.loop-p.invariant.0,
      omega (arith, c.raise_lobe.auto.first, c.loop-p.invariant.1),
      omega (arith, c.raise_lobe.auto.second, c.loop-p.invariant.2),
      omega (arith, c.raise_lobe.auto.chunk, c.loop-p.invariant.3),
      omega (arith, c.raise_lobe.auto.indexes, c.loop-p.invariant.4),
      lobes-next _ _ _ _ _ c.loop-p.p _ some c.loop-p-test.true c.raise_lobe.ensures.0 ∙ c.loop-p.invariant.5,
      lobes-next _ _ _ _ _ c.loop-p.p _ some c.loop-p-test.true c.raise_lobe.ensures.1 ∙ c.loop-p.invariant.6,
    )

pub shape_of-first : goal.shape_of-first
shape_of-first c = c.loop-p.invariant.1

pub shape_of-second : goal.shape_of-second
shape_of-second c = c.loop-p.invariant.2

pub shape_of-chunk : goal.shape_of-chunk
shape_of-chunk c = c.loop-p.invariant.3

pub shape_of-indexes : goal.shape_of-indexes
shape_of-indexes c = c.loop-p.invariant.4

pub returns : goal.returns
returns c =
    let l = c.loop-p in
    (sym (lobes-end _ _ _ _ _ _ _ c.loop-p-test.false) ∙ l.invariant.5, sym (lobes-end _ _ _ _ _ _ _ c.loop-p-test.false) ∙ l.invariant.6)
