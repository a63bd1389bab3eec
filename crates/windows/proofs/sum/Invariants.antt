-- `sum` is the fold from 0: the sum so far, run on over the values that are left, is the whole sum.
-- Assumes nothing.
use mathlib.Core.Path.{◌≡◌}
use lib.ListN.{drop}
use lib.Ieee.{binary32, add}
use Rattle.lists.specs.Folds.{fold}
use Rattle.windows.specs.Windows.{sum_of}
use Rattle.windows.proofs.sum.Given as goal

abbrev pub invariant-loop-value : goal.invariant-loop-value
invariant-loop-value l = fold (λ s x. add binary32 s x) l.total (drop l.value-index l.window) ≡ sum_of l.window
