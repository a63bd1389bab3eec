-- `move_row` replaces the entries from `start` on: each entry below i is moved toward its target.
-- Assumes nothing.
use mathlib.Core.Path.{ap, ◌∙◌}
use mathlib.Core.Logic.{inl}
use Prim.Native.Nat.{◌-◌}
use native.Mathlib.Omega.{arith}
use lib.ListN.{get_or}
use lib.Ieee.{Float, nan}
use borrow.Author.Rules.{rules}
use Rattle.lists.specs.Turned.{turned_none, turned_more, turned-to}
use Rattle.smoothing.specs.Smoothing.{nearer}
use Rattle.smoothing.proofs.move_row.Goals as goal

pub loop-i-init : goal.loop-i-init
loop-i-init c = (turned_none _ _ _, search rules)

pub overflow_sub-i : goal.overflow_sub-i
overflow_sub-i c = c.loop-i.invariant.0.low

pub loop-i-preserved : goal.loop-i-preserved
loop-i-preserved c =
    let e = c.requires.4 c.loop-i.i c.loop-i.invariant.0.low c.loop-i-test.true in
    let aim = get_or c.args.target_db.now (c.loop-i.i - c.args.start) nan in
    (turned_more nan c.loop-i.invariant.0 (omega arith) (c.nearer.ensures ∙ ap (λ (x : Float). nearer c.args.blend x aim) e), omega arith)

pub shape_of-current : goal.shape_of-current
shape_of-current c = c.loop-i.invariant.0.len

pub returns : goal.returns
returns c = turned-to _ c.loop-i.invariant.0 (inl c.loop-i.invariant.1) (omega arith)
