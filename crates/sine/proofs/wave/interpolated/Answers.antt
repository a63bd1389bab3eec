-- `sine::wave::interpolated` meets its contract: entries never fall, so the difference is a whole
-- number, and product and sum fit 64 bits; at p = 2 ^ 22 the last entry is the answer. Assumes
-- nothing.
use Prim.Native.Nat.{ℕ, ◌≤◌}
use native.Mathlib.Omega.{arith}
use Rattle.lists.specs.Interpolation.{product-fits, sum_fits, interpolated}
use Rattle.sine.specs.Table.{R}
use Rattle.sine.proofs.Entries.{entries-rise, entry-small}
use Rattle.sine.proofs.Waves.{at-end}
use Rattle.sine.proofs.wave.interpolated.Goals.{After-entry-b}
use Rattle.sine.proofs.wave.interpolated.Goals as goal

pub returns-then-h-gt255 : goal.returns-then-h-gt255
returns-then-h-gt255 c = at-end c.args.p c.requires (omega arith)

module _ (c : After-entry-b) where
  abbrev p : ℕ
  p = c.args.p

  abbrev a : ℕ
  a = c.entry-a.result

  abbrev b : ℕ
  b = c.entry-b.result

  up : a ≤ b
  up = entries-rise p a b (omega arith) c.entry-a.ensures c.entry-b.ensures

  small : b ≤ 2147483648
  small = entry-small p a b (omega arith) c.entry-a.ensures c.entry-b.ensures

pub overflow_sub-result : goal.overflow_sub-result
overflow_sub-result c = up c

pub overflow_mul-result : goal.overflow_mul-result
overflow_mul-result c = record { fits = product-fits 14 R (p c) (a c) (b c) (omega arith) c.entry-a.ensures c.entry-b.ensures (up c) (small c) }

pub overflow_add-result : goal.overflow_add-result
overflow_add-result c = record { fits = sum_fits 14 R (p c) (a c) (b c) (omega arith) c.entry-a.ensures c.entry-b.ensures (up c) (small c) }

pub returns : goal.returns
returns c = interpolated 14 R (p c) (a c) (b c) (omega arith) c.entry-a.ensures c.entry-b.ensures (up c) (small c)
