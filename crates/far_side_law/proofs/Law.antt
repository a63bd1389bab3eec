-- Silence from the far side, of every two calls in either of their two forms. Assumes nothing.
use mathlib.Core.Path.{subst}
use Rattle.chord_law.specs.Calls.{WholeCall, whole, whole_lent}
use Rattle.chord_law.proofs.LentCalls.{in_array, all-count}
use Rattle.far_side_law.specs.FarSide.{FarSideSilent, FarSideLaw, LentFarSideLaw}
use Rattle.far_side_law.proofs.Same.{masks-same}
use Rattle.far_side_law.proofs.Equal.{masks-equal}

pub far-side-law : FarSideLaw
far-side-law a b fa fb =
    record {
      left-same = masks-same _ a b fa fb;
      right-same = masks-same _ a b fa fb;
      left-equal = masks-equal _ a b fa fb;
      right-equal = masks-equal _ a b fa fb;
    }

-- the records as the voices of an array, and their number as the count
pub lent-far-side-law : LentFarSideLaw
lent-far-side-law a b fa fb =
    subst (λ (x : WholeCall). FarSideSilent x (whole_lent b)) (all-count a)
    (subst (λ (y : WholeCall). FarSideSilent (whole (in_array a)) y) (all-count b)
    (far-side-law (in_array a) (in_array b) fa fb))
