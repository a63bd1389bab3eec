-- `soften_inside` softens every bin with two neighbours: each bin below `start` is done
-- (proofs/Rows.antt). Assumes nothing.
use mathlib.Core.Logic.{inl}
use Prim.Native.Nat.{◌+◌, ◌≤◌}
use native.Mathlib.Omega.{arith}
use borrow.Author.Rules.{rules}
use lib.ListN.{length}
use Rattle.lists.specs.Turned.{turned_none, turned-to}
use Rattle.lists.specs.Runs.{turned-by}
use Rattle.smoothing.proofs.Rows.{softened-inside}
use Rattle.smoothing.proofs.soften_inside.Goals as goal

pub loop-start-init : goal.loop-start-init
loop-start-init c = (search rules, omega arith, turned_none _ _ _)

pub overflow_sub-start : goal.overflow_sub-start
overflow_sub-start c = c.loop-start.invariant.2.low

pub overflow_add-count : goal.overflow_add-count
overflow_add-count c = omega (arith, c.min-count.ensures)

pub decibel_row-requires : goal.decibel_row-requires
decibel_row-requires c =
    (omega (arith, c.min-count.ensures, c.loop-start.invariant.0), omega (arith, c.min-count.ensures, c.requires.1, c.loop-start.invariant.1, c.loop-start.invariant.2.low))

pub soften_row-requires : goal.soften_row-requires
soften_row-requires c = (
  omega arith,
  omega (arith, c.min-count.ensures, c.requires.0, c.requires.1, c.loop-start.invariant.1, c.loop-start.invariant.2.len),
  omega (arith, c.min-count.ensures, c.loop-start.invariant.0, c.decibel_row.auto.row),
)

pub loop-start-preserved : goal.loop-start-preserved
loop-start-preserved c =
    let a = c.args in
    let room : c.min-count.result + 2 ≤ length c.loop-start.row = omega (arith, c.min-count.ensures, c.loop-start.invariant.0) in
    let e = softened-inside c.loop-start.start c.min-count.result a.source.now c.loop-start.row c.loop-start.output c.loop-start.invariant.2.low room c.decibel_row.ensures c.soften_row.ensures in
    (search rules, omega (arith, c.loop-start.invariant.1), turned-by c.min-count.result _ c.loop-start.invariant.2 e (omega (arith, c.min-count.ensures)))

pub shape_of-output : goal.shape_of-output
shape_of-output c = c.loop-start.invariant.2.len

pub returns : goal.returns
returns c = turned-to _ c.loop-start.invariant.2 (inl c.loop-start.invariant.1) (omega arith)

pub returns-2 : goal.returns-2
returns-2 c =
    let a = c.args in
    let room : c.min-count.result + 2 ≤ length c.loop-start.row = omega (arith, c.min-count.ensures, c.loop-start.invariant.0) in
    let e = softened-inside c.loop-start.start c.min-count.result a.source.now c.loop-start.row c.loop-start.output c.loop-start.invariant.2.low room c.decibel_row.ensures c.soften_row.ensures in
    (turned-by c.min-count.result _ c.loop-start.invariant.2 e (omega (arith, c.min-count.ensures, c.loop-start.invariant.1))).is
