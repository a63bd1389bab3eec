-- `denominator` is the definition's: the sum so far, run on over the offsets that are left, is the
-- whole sum, and `at` is the index that the next offset reads. Assumes nothing.
use mathlib.Core.Path.{◌≡◌}
use Prim.Native.Nat.{◌+◌, ◌-◌, ◌*◌, ◌%◌, ◌<◌}
use lib.ListN.{length, get_or}
use lib.Ieee.{nan, binary32, add}
use Rattle.lists.specs.Folds.{fold, range}
use Rattle.float_laws.specs.Window.{squared}
use Rattle.float_laws.specs.Classes.{energy_at}
use Rattle.windows.proofs.denominator.Given as goal

abbrev pub invariant-loop-offset : goal.invariant-loop-offset
invariant-loop-offset l =
    (l.at < length l.analysis)
    × (l.at ≡ (l.index + l.offset * l.hop) % length l.analysis)
    × (fold (λ s k. add binary32 s (squared binary32 (get_or l.analysis ((l.index + k * l.hop) % length l.analysis) nan))) l.sum (range l.offset (l.overlap - l.offset)) ≡ energy_at binary32 l.analysis l.hop l.overlap l.index)
