-- One mask against another, on every bin, as f32 compares: where the comparison holds neither
-- number is a NaN. Both lists have the same number of bins. Assumes nothing.
use Rattle.std.specs.Prelude.{List, T, Float}
use Rattle.std.specs.Float.Ieee.{le, eq}
use Rattle.lists.specs.Pairs.{All2}
use Rattle.chord_law.specs.Calls.{WholeCall}

abbrev pub NotAbove : List Float → List Float → Type 0
NotAbove = All2 (λ x y. T (le x y))

abbrev pub EqualMasks : List Float → List Float → Type 0
EqualMasks = All2 (λ x y. T (eq x y))

-- ---- both masks of two calls
abbrev pub MasksNotAbove : WholeCall → WholeCall → Type 0
MasksNotAbove a b = NotAbove a.left b.left × NotAbove a.right b.right

abbrev pub MasksEqual : WholeCall → WholeCall → Type 0
MasksEqual a b = EqualMasks a.left b.left × EqualMasks a.right b.right
