-- `bells` is its three stages, one after the other. Assumes nothing.
use Prim.Native.Nat.{ℕ, ◌+◌}
use native.Mathlib.Omega.{arith}
use lib.ListN.{get_or}
use lib.Ieee.{Float, nan, binary32, sub}
use Rattle.lobes.specs.Distance.{in_widths}
use Rattle.lobe_rows.specs.Stages.{place_of}
use Rattle.lobe_rows.proofs.Staged.{in_table, placed-in-table, index-most, belled}
use Rattle.lobe_rows.proofs.chunk.bells.Goals.{Start}
use Rattle.lobe_rows.proofs.chunk.bells.Goals as goal

-- a bin's place
abbrev place_at : (s : Start) → ℕ → Float
place_at s k = place_of s.args.peak_squared (in_widths s.args.width (sub binary32 (get_or s.args.table.now (s.args.start + k) nan) s.args.center_log2))

pub steps-requires : goal.steps-requires
steps-requires c = (
  record { in-chunk = omega (arith, c.requires.0.in-chunk, c.places.auto.chunk); in-indexes = c.requires.0.in-indexes },
  placed-in-table (place_at c.before.before.before.before.before.before.before.before.before.before) c.args.count c.args.chunk.now c.requires.0.in-chunk (λ k. in_table _ _) c.places.ensures,
)

pub lines-requires : goal.lines-requires
lines-requires c = (
  record {
    in-chunk = omega (arith, c.requires.0.in-chunk, c.places.auto.chunk, c.steps.auto.chunk);
    in-indexes = omega (arith, c.requires.0.in-indexes, c.steps.auto.indexes);
  },
  index-most (place_at c.before.before.before.before.before.before.before.before.before.before.before.before.before.before.before.before) c.args.count c.args.chunk.now c.requires.0.in-chunk c.places.ensures c.args.indexes.now c.requires.0.in-indexes c.steps.ensures.1,
)

pub returns : goal.returns
returns c =
    belled (place_at c.before.before.before.before.before.before.before.before.before.before.before.before.before.before.before.before.before.before.before) c.args.count c.args.chunk.now c.requires.0.in-chunk c.places.ensures c.args.indexes.now c.requires.0.in-indexes c.steps.ensures.1 c.steps.ensures.0 c.lines.ensures
