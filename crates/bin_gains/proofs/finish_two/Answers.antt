-- `finish_two` meets its contract: on either side each bin below `start` has its gain, and the
-- others their openness. Assumes nothing.
use mathlib.Core.Path.{◌≡◌, refl}
use Prim.Native.Nat.{◌+◌, ◌≤◌}
use native.Mathlib.Omega.{arith}
use lib.ListN.{length}
use borrow.Author.Rules.{rules}
use Rattle.lists.specs.Turned.{turned_none, turned-all}
use Rattle.lists.specs.Runs.{turned-by}
use Rattle.bin_gains.proofs.RowCeilings.{finished}
use Rattle.bin_gains.proofs.finish_two.Goals as goal

pub loop-start-init : goal.loop-start-init
loop-start-init c = (search rules, search rules, omega arith, turned_none _ _ _, turned_none _ _ _)

pub ceilings-requires : goal.ceilings-requires
ceilings-requires c = (
  c.requires.0,
  c.shared_of-shared.ensures,
  omega (arith, c.min-count.ensures, c.loop-start.invariant.0),
  omega (arith, c.min-count.ensures, c.loop-start.invariant.1),
  omega (arith, c.min-count.ensures, c.requires.2, c.loop-start.invariant.2, c.loop-start.invariant.3.len),
)

pub finish_row-requires : goal.finish_row-requires
finish_row-requires c =
    (c.shared_of-shared.ensures, omega arith, omega (arith, c.min-count.ensures, c.loop-start.invariant.3.len), omega (arith, c.min-count.ensures, c.loop-start.invariant.0, c.ceilings.auto.row))

pub finish_row-requires-in-loop-start : goal.finish_row-requires-in-loop-start
finish_row-requires-in-loop-start c = (
  c.shared_of-shared.ensures,
  omega arith,
  omega (arith, c.min-count.ensures, c.requires.3, c.loop-start.invariant.3.len, c.loop-start.invariant.4.len),
  omega (arith, c.min-count.ensures, c.loop-start.invariant.0, c.ceilings.auto.row),
)

pub loop-start-preserved : goal.loop-start-preserved
loop-start-preserved c =
    let a = c.args in
    let room : c.min-count.result ≤ length c.loop-start.row = omega (arith, c.min-count.ensures, c.loop-start.invariant.0) in
    let next : c.loop-start.start + c.min-count.result ≡ c.loop-start.start + 256 = omega (arith, c.min-count.ensures, c.loop-start.invariant.3.len) in (
      search rules,
      search rules,
      omega arith,
      turned-by c.min-count.result _ c.loop-start.invariant.3 (finished a.curve.now a.config c.loop-start.start c.min-count.result c.loop-start.row c.loop-start.left room c.ceilings.ensures c.finish_row.ensures) next,
      turned-by c.min-count.result _ c.loop-start.invariant.4 (finished a.curve.now a.config c.loop-start.start c.min-count.result c.loop-start.row c.loop-start.right room c.ceilings.ensures c.finish_row-in-loop-start.ensures) next,
    )

pub shape_of-left : goal.shape_of-left
shape_of-left c = c.loop-start.invariant.3.len

pub shape_of-right : goal.shape_of-right
shape_of-right c = c.loop-start.invariant.4.len

pub returns : goal.returns
returns c = record { left_after = turned-all c.loop-start.invariant.3 (omega (arith, c.loop-start.invariant.3.len)); right_after = turned-all c.loop-start.invariant.4 (omega (arith, c.loop-start.invariant.3.len, c.requires.3)) }

pub returns-2 : goal.returns-2
returns-2 c =
    let a = c.args in
    let i = c.loop-start.invariant in
    let room : c.min-count.result ≤ length c.loop-start.row = omega (arith, c.min-count.ensures, i.0) in
    record {
      left_after = turned-all (turned-by c.min-count.result _ i.3 (finished a.curve.now a.config c.loop-start.start c.min-count.result c.loop-start.row c.loop-start.left room c.ceilings.ensures c.finish_row.ensures) refl) (omega (arith, c.min-count.ensures, i.3.len));
      right_after = turned-all (turned-by c.min-count.result _ i.4 (finished a.curve.now a.config c.loop-start.start c.min-count.result c.loop-start.row c.loop-start.right room c.ceilings.ensures c.finish_row-in-loop-start.ensures) refl) (omega (arith, c.min-count.ensures, i.3.len, c.requires.3));
    }
