-- `waves` is its four stages, one after the other. Assumes nothing.
use Prim.Native.Nat.{◌≤◌}
use native.Mathlib.Omega.{arith}
use lib.ListN.{length}
use Rattle.sine_rows.proofs.StagedWaves.{index-most, part-most, value-most, staged}
use Rattle.sine_rows.proofs.waves.Goals.{Start}
use Rattle.sine_rows.proofs.waves.Goals as goal

-- the lent buffers have room
rooms : (s : Start) → (s.args.count ≤ length s.args.found.now) × (s.args.count ≤ length s.args.indexes.now) × (s.args.count ≤ length s.args.parts.now)
rooms s = (s.requires.1, s.requires.2, s.requires.3)

pub values-requires : goal.values-requires
values-requires c = (
  omega (arith, c.requires.2, c.steps.auto.indexes),
  omega (arith, c.requires.3, c.steps.auto.parts),
  index-most c.args.ahead c.args.start c.args.count c.args.row.now c.args.found.now c.args.indexes.now c.args.parts.now (rooms c.before.before.before.before.before.before.before.before.before.before.before.before.before.before.before.before) c.places.ensures c.steps.ensures.0 c.steps.ensures.1,
  part-most c.args.ahead c.args.start c.args.count c.args.row.now c.args.found.now c.args.indexes.now c.args.parts.now (rooms c.before.before.before.before.before.before.before.before.before.before.before.before.before.before.before.before) c.places.ensures c.steps.ensures.0 c.steps.ensures.1,
)

pub levels-requires : goal.levels-requires
levels-requires c = (
  c.requires.0,
  omega (arith, c.requires.1, c.places.auto.found),
  omega (arith, c.requires.2, c.steps.auto.indexes, c.values.auto.indexes),
  value-most c.args.ahead c.args.start c.args.count c.args.row.now c.args.found.now c.args.indexes.now c.args.parts.now (rooms c.before.before.before.before.before.before.before.before.before.before.before.before.before.before.before.before.before.before.before.before) c.places.ensures c.steps.ensures.0 c.steps.ensures.1 c.values.ensures c.steps.auto.indexes,
)

pub returns : goal.returns
returns c =
    staged c.args.ahead c.args.start c.args.count c.args.row.now c.args.found.now c.args.indexes.now c.args.parts.now (rooms c.before.before.before.before.before.before.before.before.before.before.before.before.before.before.before.before.before.before.before.before.before.before.before.before) c.places.ensures c.steps.ensures.0 c.steps.ensures.1 c.values.ensures c.steps.auto.indexes c.levels.ensures
