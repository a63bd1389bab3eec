-- `smooth_all` moves every gain: each gain below `start` is moved, and the others are as they were
-- (proofs/Rows.antt). Assumes nothing.
use mathlib.Core.Path.{refl}
use Prim.Native.Nat.{◌≤◌}
use native.Mathlib.Omega.{arith}
use borrow.Author.Rules.{rules}
use lib.ListN.{length}
use Rattle.lists.specs.Turned.{turned_none, turned-all}
use Rattle.lists.specs.Runs.{turned-by}
use Rattle.smoothing.specs.Smoothing.{blend_of}
use Rattle.smoothing.proofs.Rows.{decibels-at, moved}
use Rattle.smoothing.proofs.smooth_all.Goals as goal

pub loop-start-init : goal.loop-start-init
loop-start-init c = (search rules, search rules, omega arith, turned_none _ _ _)

pub decibel_row-requires : goal.decibel_row-requires
decibel_row-requires c =
    (omega (arith, c.min-count.ensures, c.loop-start.invariant.0), omega (arith, c.min-count.ensures, c.loop-start.invariant.2, c.loop-start.invariant.3.len))

pub decibel_row-requires-in-loop-start : goal.decibel_row-requires-in-loop-start
decibel_row-requires-in-loop-start c =
    (omega (arith, c.min-count.ensures, c.loop-start.invariant.1), omega (arith, c.min-count.ensures, c.requires, c.loop-start.invariant.2, c.loop-start.invariant.3.len))

pub move_row-requires : goal.move_row-requires
move_row-requires c =
    let room : c.min-count.result ≤ length c.loop-start.current_db = omega (arith, c.min-count.ensures, c.loop-start.invariant.0) in (
      omega arith,
      omega (arith, c.min-count.ensures, c.loop-start.invariant.2, c.loop-start.invariant.3.len),
      omega (arith, c.min-count.ensures, c.loop-start.invariant.0, c.decibel_row.auto.row),
      omega (arith, c.min-count.ensures, c.loop-start.invariant.1, c.decibel_row-in-loop-start.auto.row),
      decibels-at c.loop-start.start c.min-count.result c.loop-start.current c.loop-start.current_db room c.decibel_row.ensures,
    )

pub loop-start-preserved : goal.loop-start-preserved
loop-start-preserved c =
    let a = c.args in
    let room : c.min-count.result ≤ length c.loop-start.target_db = omega (arith, c.min-count.ensures, c.loop-start.invariant.1) in
    let e = moved c.loop-start.start c.min-count.result a.target.now c.loop-start.target_db room c.decibel_row-in-loop-start.ensures c.blend-part.result (blend_of a.elapsed_seconds) c.loop-start.current c.blend-part.ensures c.move_row.ensures in
    (search rules, search rules, omega arith, turned-by c.min-count.result _ c.loop-start.invariant.3 e (omega (arith, c.min-count.ensures, c.loop-start.invariant.3.len)))

pub shape_of-current : goal.shape_of-current
shape_of-current c = c.loop-start.invariant.3.len

pub returns : goal.returns
returns c = turned-all c.loop-start.invariant.3 (omega (arith, c.loop-start.invariant.3.len))

pub returns-2 : goal.returns-2
returns-2 c =
    let a = c.args in
    let room : c.min-count.result ≤ length c.loop-start.target_db = omega (arith, c.min-count.ensures, c.loop-start.invariant.1) in
    let e = moved c.loop-start.start c.min-count.result a.target.now c.loop-start.target_db room c.decibel_row-in-loop-start.ensures c.blend-part.result (blend_of a.elapsed_seconds) c.loop-start.current c.blend-part.ensures c.move_row.ensures in
    turned-all (turned-by c.min-count.result _ c.loop-start.invariant.3 e refl) (omega (arith, c.min-count.ensures, c.loop-start.invariant.3.len))
