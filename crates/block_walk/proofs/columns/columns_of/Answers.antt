-- `columns_of` writes the columns in step: each up to the current place. Assumes nothing.
use mathlib.Core.Path.{refl}
use mathlib.Core.Logic.{inl}
use Prim.Native.Nat.{◌-◌}
use native.Mathlib.Omega.{arith}
use lib.Ieee.{nan}
use Rattle.lists.specs.Turned.{turned_none, turned_more, turned-to}
use borrow.Author.Rules.{rules}
use Rattle.block_walk.proofs.columns.columns_of.Goals as goal

pub loop-p-init : goal.loop-p-init
loop-p-init c = (search rules, omega arith, turned_none _ _ _, turned_none _ _ _, turned_none _ _ _)

pub offset_bounds-lobes-p : goal.offset_bounds-lobes-p
offset_bounds-lobes-p c = omega arith

pub bounds-lobes-p : goal.bounds-lobes-p
bounds-lobes-p c = omega (arith, c.loop-p-test.true, c.requires.0)

pub offset_bounds-centers-p : goal.offset_bounds-centers-p
offset_bounds-centers-p c = omega (arith, c.loop-p-test.true, c.requires.0)

pub bounds-centers-p : goal.bounds-centers-p
bounds-centers-p c = omega (arith, c.loop-p-test.true, c.requires.1.centers-long, c.loop-p.invariant.2.len)

pub offset_bounds-strengths-p : goal.offset_bounds-strengths-p
offset_bounds-strengths-p c = omega (arith, c.loop-p-test.true, c.requires.0)

pub bounds-strengths-p : goal.bounds-strengths-p
bounds-strengths-p c = omega (arith, c.loop-p-test.true, c.requires.1.strengths-long, c.loop-p.invariant.3.len)

pub offset_bounds-peaks-p : goal.offset_bounds-peaks-p
offset_bounds-peaks-p c = omega (arith, c.loop-p-test.true, c.requires.0)

pub bounds-peaks-p : goal.bounds-peaks-p
bounds-peaks-p c = omega (arith, c.loop-p-test.true, c.requires.1.peaks-long, c.loop-p.invariant.4.len)

pub loop-p-preserved : goal.loop-p-preserved
loop-p-preserved c =
    let l = c.loop-p in (
      l.invariant.0,
      omega (arith, c.loop-p-test.true),
      turned_more nan l.invariant.2 (omega (arith, c.loop-p-test.true, c.requires.1.centers-long)) refl,
      turned_more nan l.invariant.3 (omega (arith, c.loop-p-test.true, c.requires.1.strengths-long)) refl,
      turned_more nan l.invariant.4 (omega (arith, c.loop-p-test.true, c.requires.1.peaks-long)) refl,
    )

pub shape_of-centers : goal.shape_of-centers
shape_of-centers c = c.loop-p.invariant.2.len

pub shape_of-strengths : goal.shape_of-strengths
shape_of-strengths c = c.loop-p.invariant.3.len

pub shape_of-peaks : goal.shape_of-peaks
shape_of-peaks c = c.loop-p.invariant.4.len

pub returns : goal.returns
returns c =
    let l = c.loop-p in
    let e = c.loop-p-test.false in
    (turned-to _ l.invariant.2 (inl l.invariant.1) e, turned-to _ l.invariant.3 (inl l.invariant.1) e, turned-to _ l.invariant.4 (inl l.invariant.1) e)
