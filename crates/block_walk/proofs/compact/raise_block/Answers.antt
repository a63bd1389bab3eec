-- `raise_block` leaves a block where nothing rises, and else joins the most that one of the lobes
-- opens to each side. Assumes nothing.
use mathlib.Core.Path.{refl}
use Prim.Native.Nat.{◌+◌, ◌≤◌}
use native.Mathlib.Omega.{arith}
use lib.ListN.{length, get_or}
use lib.Ieee.{nan, binary32}
use Rattle.float_laws.specs.Units.{real-number}
use Rattle.block_walk.proofs.BlockRaised.{block-joined, block-kept}
use Rattle.block_walk.proofs.compact.raise_block.Goals as goal

pub greatest_at-top-requires : goal.greatest_at-top-requires
greatest_at-top-requires c =
    (c.requires.2.some, c.requires.2.bounds-long, λ p h. real-number binary32 (get_or c.args.bounds.now p nan) (c.requires.2.bounds p h).0.is_real)

pub bounds-bounds-top : goal.bounds-bounds-top
bounds-bounds-top c =
    omega (arith, c.greatest_at-top.ensures.0, c.requires.2.bounds-long)

pub nothing_rises-requires : goal.nothing_rises-requires
nothing_rises-requires c =
    (c.requires.1, c.requires.0.scratch.chunk-64, (c.requires.2.bounds c.greatest_at-top.result c.greatest_at-top.ensures.0).0)

pub returns-then-nothing_rises : goal.returns-then-nothing_rises
returns-then-nothing_rises c =
    let few : c.args.count ≤ length c.args.lobes = omega (arith, c.well_formed.1.1.1.1.1.1.1.1.0.1.0.1, c.requires.0.few) in
    let rises = c.nothing_rises.ensures c.if-nothing_rises.true in
    let wide : c.args.end ≤ c.args.start + 64 = c.requires.2.block.most in (
      block-kept c.args.grid c.args.table.now c.args.lobes c.args.count c.requires.0.sound few c.args.bounds.now c.args.start c.args.end c.greatest_at-top.result c.requires.2.bounds c.greatest_at-top.ensures c.requires.1.gains.first-gain c.args.first.now c.requires.1.sides.first-open
          (λ bin p q l. rises.0 bin p (omega (arith, wide, q)) l),
      block-kept c.args.grid c.args.table.now c.args.lobes c.args.count c.requires.0.sound few c.args.bounds.now c.args.start c.args.end c.greatest_at-top.result c.requires.2.bounds c.greatest_at-top.ensures c.requires.1.gains.second-gain c.args.second.now c.requires.1.sides.second-open
          (λ bin p q l. rises.1 bin p (omega (arith, wide, q)) l),
    )

pub raise_partials-requires : goal.raise_partials-requires
raise_partials-requires c = (
  record {
    scratch = record { chunk-64 = omega (arith, c.nothing_rises.auto, c.requires.0.scratch.chunk-64); indexes-64 = c.requires.0.scratch.indexes-64 };
    few = c.requires.0.few;
    sound = c.requires.0.sound;
  },
  c.requires.2,
  record { row-64 = refl; top-inside = c.greatest_at-top.ensures.0 },
)

pub join-requires : goal.join-requires
join-requires c =
    omega (arith, c.raise_partials.auto.row, c.requires.2.block.most)

pub join-requires-2 : goal.join-requires-2
join-requires-2 c =
    omega (arith, c.raise_partials.auto.row, c.requires.2.block.most)

pub returns : goal.returns
returns c =
    let few : c.args.count ≤ length c.args.lobes = omega (arith, c.well_formed.1.1.1.1.1.1.1.1.0.1.0.1, c.requires.0.few) in (
      block-joined c.args.grid c.args.table.now c.args.lobes c.args.count c.requires.0.sound few c.raise_partials.new.row c.args.start c.args.end c.requires.1.gains.first-gain c.raise_partials.ensures c.args.first.now c.requires.1.sides.first-open c.join.ensures,
      block-joined c.args.grid c.args.table.now c.args.lobes c.args.count c.requires.0.sound few c.raise_partials.new.row c.args.start c.args.end c.requires.1.gains.second-gain c.raise_partials.ensures c.args.second.now c.requires.1.sides.second-open c.join-2.ensures,
    )
