-- "A voice panned hard right never colours the left": two accepted stereo calls with one curve,
-- table and settings, whose lists of voices are the same once those far from a side are left out,
-- have equal masks on that side. 'One' and 'the same' are read in two ways, and both are shown.
-- Assumes nothing.
use Rattle.std.specs.Prelude.{◌≡◌}
use Rattle.lists.specs.Pairs.{All2}
use Rattle.lobes.specs.Pan.{Side, left, right}
use Rattle.chord_law.specs.Calls.{WholeCall, Accepted, Call, F32Call, whole}
use Rattle.chord_law.specs.Calls.{LentCall, F32LentCall, whole_lent}
use Rattle.chord_law.specs.SameVoices.{SameVoice}
use Rattle.chord_law.specs.Settings.{SameSettings, SameEntries}
use Rattle.chord_law.specs.Curves.{EqualCurves}
use Rattle.chord_law.specs.Masks.{EqualMasks}
use Rattle.far_side_law.specs.Sides.{near}

-- ---- as data: the same to the bit, a NaN of the curve too
pub record SameScene (side : Side) (a b : WholeCall) : Type 0 where
  pub a-accepted : Accepted a
  pub b-accepted : Accepted b
  pub curve : a.curve ≡ b.curve
  pub table : a.table ≡ b.table
  pub settings : a.config ≡ b.config
  pub voices : near side a.voices ≡ near side b.voices

-- ---- as f32 compares: -0 and +0 are equal, and entry 0 of the table is not read; two NaN points
-- of the curves are equal
pub record EqualScene (side : Side) (a b : WholeCall) : Type 0 where
  pub a-accepted : Accepted a
  pub b-accepted : Accepted b
  pub curve : EqualCurves a.curve b.curve
  pub table : SameEntries a.table b.table
  pub settings : SameSettings a.config b.config
  pub voices : All2 SameVoice (near side a.voices) (near side b.voices)

-- ---- the law: the same scene gives the same bits, and an equal one equal gains, on every bin
pub record FarSideSilent (a b : WholeCall) : Type 0 where
  pub left-same : SameScene left a b → a.left ≡ b.left
  pub right-same : SameScene right a b → a.right ≡ b.right
  pub left-equal : EqualScene left a b → EqualMasks a.left b.left
  pub right-equal : EqualScene right a b → EqualMasks a.right b.right

-- of every two calls
abbrev pub FarSideLaw : Type 0
FarSideLaw = (a b : Call) → F32Call a → F32Call b → FarSideSilent (whole a) (whole b)

-- of every two calls on lent slices of voice records
abbrev pub LentFarSideLaw : Type 0
LentFarSideLaw =
    (a b : LentCall) → F32LentCall a → F32LentCall b → FarSideSilent (whole_lent a) (whole_lent b)
