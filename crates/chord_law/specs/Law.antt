-- The chord law: document 01's demand 3, "a single theorem on two whole stereo calls, from what
-- they are given to all size/2 + 1 bins of both masks", and its corollary for the call on a lent
-- slice of voice records. Assumes nothing.
use Rattle.chord_law.specs.Calls.{WholeCall, Call, F32Call, whole}
use Rattle.chord_law.specs.Calls.{LentCall, F32LentCall, whole_lent}
use Rattle.chord_law.specs.Voices.{MatchedIn}
use Rattle.chord_law.specs.Curves.{EqualCurves}
use Rattle.chord_law.specs.Premises.{Comparable, Beneath}
use Rattle.chord_law.specs.Masks.{MasksNotAbove, MasksEqual}

-- Where each voice of A is matched by one of B and A's curve is nowhere above B's, no bin of A's
-- masks is above B's; and where B is matched in A too and the curves are equal, the masks are
-- equal.
abbrev pub LawHolds : WholeCall → WholeCall → Type 0
LawHolds a b =
    Comparable a b
    → Beneath a b
    → MasksNotAbove a b
    × (MatchedIn b.voices a.voices → EqualCurves a.curve b.curve → MasksEqual a b)

-- of every two calls
abbrev pub ChordLaw : Type 0
ChordLaw = (a b : Call) → F32Call a → F32Call b → LawHolds (whole a) (whole b)

-- of every two calls on lent slices of voice records
abbrev pub LentChordLaw : Type 0
LentChordLaw =
    (a b : LentCall) → F32LentCall a → F32LentCall b → LawHolds (whole_lent a) (whole_lent b)
