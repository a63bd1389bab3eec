-- `nearest_root` meets its contract: with q the whole part of the root, the next number is nearer
-- exactly where the rest is above q. Assumes nothing.
use native.Mathlib.Omega.{arith}
use Rattle.square_root.proofs.RootRounding.{whole-is-nearest}
use Rattle.square_root.proofs.nearest_root.Goals as goal

pub returns-else-q-n : goal.returns-else-q-n
returns-else-q-n c = let b = c.before in whole-is-nearest b.args.n b.whole_root-q.result b.requires.0 b.whole_root-q.ensures (omega arith)
