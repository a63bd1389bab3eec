-- `finish_one` meets its contract: each bin below `start` has its gain, and the others their
-- openness. Assumes nothing.
use mathlib.Core.Path.{refl}
use Prim.Native.Nat.{◌≤◌}
use native.Mathlib.Omega.{arith}
use lib.ListN.{length}
use borrow.Author.Rules.{rules}
use Rattle.lists.specs.Turned.{turned_none, turned-all}
use Rattle.lists.specs.Runs.{turned-by}
use Rattle.bin_gains.proofs.RowCeilings.{finished}
use Rattle.bin_gains.proofs.finish_one.Goals as goal

pub loop-start-init : goal.loop-start-init
loop-start-init c = (search rules, search rules, omega arith, turned_none _ _ _)

pub ceilings-requires : goal.ceilings-requires
ceilings-requires c = (
  c.requires.0,
  c.shared_of-shared.ensures,
  omega (arith, c.min-count.ensures, c.loop-start.invariant.0),
  omega (arith, c.min-count.ensures, c.loop-start.invariant.1),
  omega (arith, c.min-count.ensures, c.requires.2, c.loop-start.invariant.2, c.loop-start.invariant.3.len),
)

pub finish_row-requires : goal.finish_row-requires
finish_row-requires c =
    (c.shared_of-shared.ensures, omega arith, omega (arith, c.min-count.ensures, c.loop-start.invariant.3.len), omega (arith, c.min-count.ensures, c.loop-start.invariant.0, c.ceilings.auto.row))

pub loop-start-preserved : goal.loop-start-preserved
loop-start-preserved c =
    let a = c.args in
    let room : c.min-count.result ≤ length c.loop-start.row = omega (arith, c.min-count.ensures, c.loop-start.invariant.0) in (
      search rules,
      search rules,
      omega arith,
      turned-by c.min-count.result _ c.loop-start.invariant.3 (finished a.curve.now a.config c.loop-start.start c.min-count.result c.loop-start.row c.loop-start.out room c.ceilings.ensures c.finish_row.ensures) (omega (arith, c.min-count.ensures, c.loop-start.invariant.3.len)),
    )

pub shape_of-out : goal.shape_of-out
shape_of-out c = c.loop-start.invariant.3.len

pub returns : goal.returns
returns c = turned-all c.loop-start.invariant.3 (omega (arith, c.loop-start.invariant.3.len))

pub returns-2 : goal.returns-2
returns-2 c =
    let a = c.args in
    let room : c.min-count.result ≤ length c.loop-start.row = omega (arith, c.min-count.ensures, c.loop-start.invariant.0) in
    turned-all (turned-by c.min-count.result _ c.loop-start.invariant.3 (finished a.curve.now a.config c.loop-start.start c.min-count.result c.loop-start.row c.loop-start.out room c.ceilings.ensures c.finish_row.ensures) refl) (omega (arith, c.min-count.ensures, c.loop-start.invariant.3.len))
