-- `raise_partials` joins the lobes to a row of zeros, the one at `top` first: what is left to join
-- makes of the row what all of them make of it, and joining the first again would change nothing.
-- Assumes nothing.
use Rattle.lists.specs.Maps.{replicate-tabulate}
use mathlib.Core.Path.{◌≡◌, sym, ◌∙◌, subst}
use Prim.Native.Nat.{ℕ, ◌-◌, ◌≤◌}
use native.Mathlib.Omega.{arith}
use lib.Dec.{T, eqb→eq}
use lib.ListN.{length}
use Rattle.block_rows.proofs.MostOpen.{Joining, joining-start, joining-more, joining-there, joining-numbers, joining-end}
use Rattle.block_rows.proofs.raise_partials.Goals as goal

pub offset_bounds-lobes-top : goal.offset_bounds-lobes-top
offset_bounds-lobes-top c =
    omega (arith, c.requires.0.few, c.requires.2.top-inside)

pub bounds-lobes-top : goal.bounds-lobes-top
bounds-lobes-top c =
    omega (arith, c.requires.0.few, c.requires.2.top-inside)

pub raise_in_row-requires : goal.raise_in_row-requires
raise_in_row-requires c = (
  record { scratch = c.requires.0.scratch; sound = c.requires.0.sound c.args.top c.requires.2.top-inside },
  c.requires.1.block,
  omega (arith, c.fill.auto, c.requires.2.row-64),
)

pub least_from-least-requires : goal.least_from-least-requires
least_from-least-requires c =
    let l : length c.args.lobes ≡ 24 = c.well_formed.1.1.1.1.1.1.1.0.1.0.1 in
    let few : c.args.count ≤ length c.args.lobes = omega (arith, l, c.requires.0.few) in
    let j = joining-start c.args.grid c.args.table.now c.args.lobes c.args.count c.requires.0.sound few c.args.start c.args.end c.args.top c.requires.2.top-inside _ _ (c.fill.ensures.after (λ y e. e) ∙ replicate-tabulate _ _) c.raise_in_row.ensures in
    (omega (arith, c.raise_in_row.auto.chunk, c.requires.0.scratch.chunk-64), joining-numbers c.args.grid c.args.table.now c.args.lobes c.args.count c.requires.0.sound few c.args.start c.args.end c.args.top c.requires.2.top-inside 0 64 0 j)

pub loop-p-init : goal.loop-p-init
loop-p-init c = (
  c.well_formed.1.1.1.1.1.1.1.0.1.0.1,
  omega (arith, c.raise_in_row.auto.row, c.fill.auto, c.requires.2.row-64),
  omega (arith, c.least_from-least.auto, c.raise_in_row.auto.chunk, c.requires.0.scratch.chunk-64),
  omega (arith, c.raise_in_row.auto.indexes, c.requires.0.scratch.indexes-64),
  omega arith,
  c.least_from-least.ensures.0,
  λ sound few inside. joining-start c.args.grid c.args.table.now c.args.lobes c.args.count sound few c.args.start c.args.end c.args.top inside _ _ (c.fill.ensures.after (λ y e. e) ∙ replicate-tabulate _ _) c.raise_in_row.ensures,
)

pub offset_bounds-lobes-p : goal.offset_bounds-lobes-p
offset_bounds-lobes-p c = omega arith

pub bounds-lobes-p : goal.bounds-lobes-p
bounds-lobes-p c = omega arith

pub bounds-bounds-p : goal.bounds-bounds-p
bounds-bounds-p c =
    omega (arith, c.loop-p-test.true, c.requires.1.bounds-long)

pub raise_above-least-requires : goal.raise_above-least-requires
raise_above-least-requires c =
    let l = c.loop-p in
    let few : c.args.count ≤ length c.args.lobes = omega (arith, l.invariant.0, c.requires.0.few) in
    let j = l.invariant.6 c.requires.0.sound few c.requires.2.top-inside in (
      record {
        scratch = record { chunk-64 = l.invariant.2; indexes-64 = l.invariant.3 };
        sound = c.requires.0.sound l.p c.loop-p-test.true;
      },
      c.requires.1.block,
      record {
        row-64 = l.invariant.1;
        row_open = j.opennesses;
        row-least = l.invariant.5;
        bound-in-unit = (c.requires.1.bounds l.p c.loop-p-test.true).0;
        bounded = (c.requires.1.bounds l.p c.loop-p-test.true).1;
        already = λ e. joining-there c.args.grid c.args.table.now c.args.lobes c.args.count c.requires.0.sound few c.args.start c.args.end c.args.top c.requires.2.top-inside l.p l.row (eqb→eq l.p c.args.top (subst T (sym e) tt)) j;
      },
    )

pub loop-p-preserved : goal.loop-p-preserved
loop-p-preserved c =
    let l = c.loop-p in (
      l.invariant.0,
      omega (arith, c.raise_above-least.auto.row, l.invariant.1),
      omega (arith, c.raise_above-least.auto.chunk, l.invariant.2),
      omega (arith, c.raise_above-least.auto.indexes, l.invariant.3),
      omega (arith, c.loop-p-test.true),
      c.raise_above-least.ensures.1,
      λ sound few inside. joining-more c.args.grid c.args.table.now c.args.lobes c.args.count sound few c.args.start c.args.end c.args.top inside l.p l.row c.loop-p-test.true (l.invariant.6 sound few inside) c.raise_above-least.ensures.0,
    )

pub shape_of-row : goal.shape_of-row
shape_of-row c =
    c.loop-p.invariant.1 ∙ sym c.requires.2.row-64

pub shape_of-chunk : goal.shape_of-chunk
shape_of-chunk c =
    c.loop-p.invariant.2 ∙ sym c.requires.0.scratch.chunk-64

pub shape_of-indexes : goal.shape_of-indexes
shape_of-indexes c =
    c.loop-p.invariant.3 ∙ sym c.requires.0.scratch.indexes-64

pub returns : goal.returns
returns c =
    let l = c.loop-p in
    let few : c.args.count ≤ length c.args.lobes = omega (arith, l.invariant.0, c.requires.0.few) in
    let done : l.p ≡ c.args.count = omega (arith, l.invariant.4, c.loop-p-test.false) in
    let j = subst (λ (p : ℕ). Joining c.args.grid c.args.table.now c.args.lobes c.args.count c.requires.0.sound few c.args.start c.args.end c.args.top c.requires.2.top-inside p l.row) done (l.invariant.6 c.requires.0.sound few c.requires.2.top-inside) in
    λ k h. joining-end c.args.grid c.args.table.now c.args.lobes c.args.count c.requires.0.sound few c.args.start c.args.end c.args.top c.requires.2.top-inside l.row j k (omega (arith, h, l.invariant.1, c.requires.1.block.most)) h
