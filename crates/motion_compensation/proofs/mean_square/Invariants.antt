-- `motion_compensation::mean_square` meets its contract. The loop's invariant: the run over the
-- samples that are left, from the sum so far, is the whole run. The measure is the number of
-- samples left. That the whole run is the definition's is said in proofs/Samples.antt. Assumes
-- nothing.
use mathlib.Core.Path.{◌≡◌}
use mathlib.Core.List.{List}
use Prim.Native.Nat.{ℕ, ◌≤◌, ◌-◌}
use lib.ListN.{get_or}
use lib.Ieee.{Float, nan, binary32, add}
use Rattle.lists.specs.Folds.{fold, range}
use Rattle.float32.specs.Powers.{square}
use Rattle.float32.specs.Remainder.{zero}
use Rattle.motion_compensation.specs.Compensation.{motion_compensation_samples}
use Rattle.motion_compensation.proofs.mean_square.Given as goal

-- the run over the samples from index on
abbrev pub rest : List Float → Float → ℕ → Float
rest row sum index = fold (λ s k. add binary32 s (square (get_or row k nan))) sum (range index (motion_compensation_samples - index))

abbrev pub invariant-loop-index : goal.invariant-loop-index
invariant-loop-index l = (l.index ≤ motion_compensation_samples) × (rest l.row l.sum l.index ≡ rest l.row zero 0)
