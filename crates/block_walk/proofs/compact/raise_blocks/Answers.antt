-- `raise_blocks` walks from the block of the first bin that a lobe reaches to that of the last: on
-- each side the bins below the current block are raised. Assumes nothing.
use mathlib.Core.Path.{◌≡◌, refl, sym, ◌∙◌}
use Prim.Native.Nat.{ℕ, ◌+◌, ◌*◌, ◌-◌, ◌≤◌, ◌<◌, min, max}
use native.Mathlib.Omega.{arith}
use lib.ListN.{length}
use Rattle.std.specs.Int.{div_ceil}
use Rattle.blocks.specs.Ends.{block_of}
use Rattle.lobes.specs.Distance.{lent}
use Rattle.block_walk.proofs.BlockWalk.{block-bounded, range-open, walked, from_first, walk_none, walk-next}
use Rattle.block_walk.proofs.compact.raise_blocks.Goals as goal

-- the blocks that are reached are those that begin below the last bin
in-reach : (last reached block : ℕ) → reached ≡ div_ceil last 64 → block < reached → block * 64 < last
in-reach last reached block e h = omega (arith, e)

past-reach : (last reached block : ℕ) → reached ≡ div_ceil last 64 → reached ≤ block → last ≤ block * 64
past-reach last reached block e h = omega (arith, e)

-- the block where the walk begins
begins : (first last block n : ℕ) → block ≡ block_of (min first last) → last ≤ 8192 → last < n → (block ≤ 128) × (1 + 64 * block_of (min first last) ≤ n)
begins first last block n e h l = (omega arith, omega arith)

pub loop-block-init : goal.loop-block-init
loop-block-init c =
    let span = c.args.span in
    let e : c.block_of-block.result ≡ block_of (min span.first_bin span.last_bin) = rw c.min.ensures at c.block_of-block.ensures in
    let b = begins span.first_bin span.last_bin c.block_of-block.result (length c.args.table.now) e (omega (arith, c.requires.2.spanned.ready.last, c.requires.2.spanned.last)) (omega (arith, c.requires.2.spanned.ready.inside, c.requires.2.spanned.last)) in (
      b.0,
      c.requires.0.scratch.chunk-64,
      c.requires.0.scratch.indexes-64,
      refl,
      c.well_formed.1.1.1.1.1.1.1.1.1.1.1.1.0.1.0.1,
      c.requires.1.sides.first-open,
      c.requires.1.sides.second-open,
      walk_none _ _ _ c.block_of-block.result c.args.first.now (rw e refl) b.1,
      walk_none _ _ _ c.block_of-block.result c.args.second.now (rw e refl) b.1,
    )

pub overflow_mul-start : goal.overflow_mul-start
overflow_mul-start c = omega (arith, c.loop-block.invariant.0)

pub overflow_add-start : goal.overflow_add-start
overflow_add-start c = omega (arith, c.loop-block.invariant.0)

pub overflow_add-start-in-loop-block : goal.overflow_add-start-in-loop-block
overflow_add-start-in-loop-block c = omega (arith, c.loop-block.invariant.0)

pub offset_bounds-lows-block : goal.offset_bounds-lows-block
offset_bounds-lows-block c = omega (arith, c.loop-block.invariant.0)

-- a block with a bin of the table has its ends
has-ends : (block last n ends : ℕ) → block * 64 < last → last < n → n ≤ 64 * ends + 1 → block < ends
has-ends block last n ends h l w = omega arith

pub bounds-lows-block : goal.bounds-lows-block
bounds-lows-block c =
    has-ends c.loop-block.block c.args.span.last_bin (length c.args.table.now) (length c.args.lows.now) (in-reach _ _ _ c.div_ceil-reached.ensures c.loop-block-test.true) (omega (arith, c.requires.2.spanned.ready.inside, c.requires.2.spanned.last)) c.requires.2.spanned.ready.lows-long

pub offset_bounds-highs-block : goal.offset_bounds-highs-block
offset_bounds-highs-block c = omega (arith, c.loop-block.invariant.0)

pub bounds-highs-block : goal.bounds-highs-block
bounds-highs-block c =
    has-ends c.loop-block.block c.args.span.last_bin (length c.args.table.now) (length c.args.highs.now) (in-reach _ _ _ c.div_ceil-reached.ensures c.loop-block-test.true) (omega (arith, c.requires.2.spanned.ready.inside, c.requires.2.spanned.last)) c.requires.2.spanned.ready.highs-long

pub bounds_of-requires : goal.bounds_of-requires
bounds_of-requires c =
    (omega (arith, c.loop-block.invariant.3, c.requires.0.few), c.requires.2.columns.room.centers-long, c.requires.2.columns.room.strengths-long, c.requires.2.columns.room.peaks-long)

-- the ends of a block's row
row_ends : (block last n end : ℕ) → block * 64 < last → last < n → end ≡ min (1 + block * 64 + 64) n → (1 + block * 64 ≤ end) × (end ≤ 1 + block * 64 + 64) × (end ≤ n) × (end ≤ 65 + 64 * block)
row_ends block last n end h l e = (omega arith, omega arith, omega arith, omega arith)

pub raise_block-requires : goal.raise_block-requires
raise_block-requires c =
    let i = c.loop-block.invariant in
    let e = row_ends c.loop-block.block c.args.span.last_bin (length c.args.table.now) c.min-end.result (in-reach _ _ _ c.div_ceil-reached.ensures c.loop-block-test.true) (omega (arith, c.requires.2.spanned.ready.inside, c.requires.2.spanned.last)) c.min-end.ensures in
    let z : 1 + 64 * c.loop-block.block ≡ 1 + c.loop-block.block * 64 = omega arith in (
      record { scratch = record { chunk-64 = i.1; indexes-64 = i.2 }; few = c.requires.0.few; sound = c.requires.0.sound },
      record { sides = record { first-open = i.5; second-open = i.6 }; gains = c.requires.1.gains },
      record {
        block = record { from = e.0; most = e.1; inside = e.2; last = omega (arith, c.requires.2.spanned.ready.last) };
        some = c.requires.2.spanned.some;
        bounds-long = omega (arith, c.bounds_of.auto, i.3, c.requires.0.few);
        bounds = rw z at (block-bounded c.requires.2.spanned.ready.ends c.requires.2.spanned.ready.table-real c.loop-block.block c.args.grid c.args.lobes c.args.count c.args.centers.now c.args.strengths.now c.args.peaks.now c.loop-block.bounds c.requires.0.sound c.requires.2.columns.values (omega (arith, i.3, c.requires.0.few)) c.min-end.result e.3 e.2 c.bounds_of.ensures);
      },
    )

pub loop-block-preserved : goal.loop-block-preserved
loop-block-preserved c =
    let i = c.loop-block.invariant in
    let last : c.args.span.last_bin < length c.args.table.now = omega (arith, c.requires.2.spanned.ready.inside, c.requires.2.spanned.last) in
    let few : c.args.count ≤ length c.args.lobes = omega (arith, i.4, c.requires.0.few) in
    let first = rw c.min-end.ensures at c.raise_block.ensures.0 in
    let second = rw c.min-end.ensures at c.raise_block.ensures.1 in (
      (let h = in-reach _ _ _ c.div_ceil-reached.ensures c.loop-block-test.true in omega (arith, h, c.requires.2.spanned.ready.last, c.requires.2.spanned.last)),
      omega (arith, c.raise_block.auto.chunk, i.1),
      omega (arith, c.raise_block.auto.indexes, i.2),
      omega (arith, c.bounds_of.auto, i.3),
      i.4,
      range-open c.args.grid c.args.table.now c.args.lobes c.args.count c.requires.0.sound few c.requires.1.gains.first-gain _ _ c.loop-block.first i.5 c.raise_block.ensures.0,
      range-open c.args.grid c.args.table.now c.args.lobes c.args.count c.requires.0.sound few c.requires.1.gains.second-gain _ _ c.loop-block.second i.6 c.raise_block.ensures.1,
      walk-next _ _ (length c.args.table.now) c.loop-block.block i.7 (let h = in-reach _ _ _ c.div_ceil-reached.ensures c.loop-block-test.true in omega (arith, h, last)) first,
      walk-next _ _ (length c.args.table.now) c.loop-block.block i.8 (let h = in-reach _ _ _ c.div_ceil-reached.ensures c.loop-block-test.true in omega (arith, h, last)) second,
    )

pub shape_of-first : goal.shape_of-first
shape_of-first c = c.loop-block.invariant.7.len

pub shape_of-second : goal.shape_of-second
shape_of-second c = c.loop-block.invariant.8.len

pub shape_of-chunk : goal.shape_of-chunk
shape_of-chunk c =
    c.loop-block.invariant.1 ∙ sym c.requires.0.scratch.chunk-64

pub shape_of-indexes : goal.shape_of-indexes
shape_of-indexes c =
    c.loop-block.invariant.2 ∙ sym c.requires.0.scratch.indexes-64

-- the walk ends above the last bin, and began at or below the first
passes : (first last block n : ℕ) → last ≤ block * 64 → last < n → (1 + 64 * block_of (min first last) ≤ max first 1) × (last < min (1 + 64 * block) n)
passes first last block n h l = (omega arith, omega arith)

pub returns : goal.returns
returns c =
    let i = c.loop-block.invariant in
    let span = c.args.span in
    let few : c.args.count ≤ length c.args.lobes = omega (arith, i.4, c.requires.0.few) in
    let p = passes span.first_bin span.last_bin c.loop-block.block (length c.args.table.now) (past-reach _ _ _ c.div_ceil-reached.ensures c.loop-block-test.false) (omega (arith, c.requires.2.spanned.ready.inside, c.requires.2.spanned.last)) in
    let within = from_first c.args.grid c.args.lobes c.args.count c.requires.0.sound c.requires.2.spanned.within in (
      i.7.is ∙ walked c.args.grid (lent c.args.table.now) c.args.gains.first c.args.lobes c.args.count few within _ _ c.args.first.now p.0 p.1,
      i.8.is ∙ walked c.args.grid (lent c.args.table.now) c.args.gains.second c.args.lobes c.args.count few within _ _ c.args.second.now p.0 p.1,
    )
