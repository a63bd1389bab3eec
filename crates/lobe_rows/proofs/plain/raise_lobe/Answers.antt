-- `raise_lobe`: on each side every bin from the lobe's first on and below `start` is joined, and
-- the chunk holds the openings of the next ones. Assumes nothing.
use mathlib.Core.Path.{◌≡◌, refl, ◌∙◌}
use mathlib.Core.Logic.{inl, inr}
use Prim.Native.Nat.{◌+◌, ◌≤◌}
use native.Mathlib.Omega.{arith}
use lib.ListN.{length}
use Rattle.lists.specs.Turned.{turned_none}
use Rattle.lobes.specs.Distance.{logs_of}
use Rattle.lobes.proofs.Lent.{if-lent}
use Rattle.lobe_rows.proofs.Walk.{chunk-joined, lobe-walked}
use Rattle.lobe_rows.proofs.plain.raise_lobe.Goals as goal

pub loop-start-init : goal.loop-start-init
loop-start-init c = (refl, refl, inr refl, turned_none _ _ _, turned_none _ _ _)

pub openings-requires : goal.openings-requires
openings-requires c = (
  record {
    in-chunk = omega (arith, c.min-count.ensures);
    in-indexes = omega (arith, c.min-count.ensures, c.requires.0.chunk-64, c.requires.0.indexes-64, c.loop-start.invariant.0, c.loop-start.invariant.1);
  },
  record {
    log-of-center = c.requires.1.log-of-center;
    last = omega (arith, c.min-count.ensures, c.requires.1.last);
    inside = if-lent _ c.requires.1.inside (λ table e inside. omega (arith, c.min-count.ensures, inside));
  },
)

pub loop-start-preserved : goal.loop-start-preserved
loop-start-preserved c =
    let l = c.loop-start in
    let logs = logs_of c.args.table in
    let room : c.min-count.result ≤ length l.chunk = omega (arith, c.min-count.ensures, l.invariant.0) in
    let next : l.start + c.min-count.result ≡ l.start + length c.args.chunk.now = omega (arith, c.min-count.ensures) in (
      c.openings.auto.chunk ∙ l.invariant.0,
      omega (arith, c.openings.auto.indexes, l.invariant.1),
      inl (omega arith),
      chunk-joined _ logs _ _ l.start c.min-count.result _ l.chunk _ room next c.openings.ensures l.invariant.3 c.join.ensures,
      chunk-joined _ logs _ _ l.start c.min-count.result _ l.chunk _ room next c.openings.ensures l.invariant.4 c.join-in-loop-start.ensures,
    )

pub shape_of-first : goal.shape_of-first
shape_of-first c = c.loop-start.invariant.3.len

pub shape_of-second : goal.shape_of-second
shape_of-second c = c.loop-start.invariant.4.len

pub shape_of-chunk : goal.shape_of-chunk
shape_of-chunk c = c.loop-start.invariant.0

pub shape_of-indexes : goal.shape_of-indexes
shape_of-indexes c = c.loop-start.invariant.1

pub returns : goal.returns
returns c =
    let l = c.loop-start in
    (lobe-walked _ _ _ _ l.invariant.3 l.invariant.2 c.loop-start-test.false, lobe-walked _ _ _ _ l.invariant.4 l.invariant.2 c.loop-start-test.false)

pub returns-2 : goal.returns-2
returns-2 c =
    let l = c.loop-start in
    let logs = logs_of c.args.table in
    let room : c.min-count.result ≤ length l.chunk = omega (arith, c.min-count.ensures, l.invariant.0) in
    let next : l.start + c.min-count.result ≡ c.args.lobe.last_bin + 1 = omega (arith, c.min-count.ensures) in (
      lobe-walked _ _ _ _ (chunk-joined _ logs _ _ l.start c.min-count.result _ l.chunk _ room next c.openings.ensures l.invariant.3 c.join.ensures) (inl (omega arith)) (omega arith),
      lobe-walked _ _ _ _ (chunk-joined _ logs _ _ l.start c.min-count.result _ l.chunk _ room next c.openings.ensures l.invariant.4 c.join-in-loop-start.ensures) (inl (omega arith)) (omega arith),
    )
