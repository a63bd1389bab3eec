-- "A NaN in the drawn curve now mutes its bin, gain 0": of every accepted stereo call, left and
-- right, whatever the voices open there and however the field moves. Assumes nothing.
use Rattle.std.specs.Prelude.{ℕ, ◌+◌, ◌/◌, ◌<◌, T, get_or}
use Rattle.std.specs.Float.{nan}
use Rattle.std.specs.Float.Ieee.{is_nan, eq}
use Rattle.float32.specs.Remainder.{zero}
use Rattle.masks.specs.Manual.{curve_point}
use Rattle.chord_law.specs.Calls.{WholeCall, Accepted, Call, F32Call, whole}
use Rattle.chord_law.specs.Calls.{LentCall, F32LentCall, whole_lent}

-- the curve point that the bin reads is a NaN
abbrev pub Erased : WholeCall → ℕ → Type 0
Erased call bin = T (is_nan (get_or call.curve (curve_point bin call.config.fft_size) nan))

pub record Muted (call : WholeCall) (bin : ℕ) : Type 0 where
  pub left-bin : T (eq (get_or call.left bin nan) zero)
  pub right-bin : T (eq (get_or call.right bin nan) zero)

abbrev pub ErasedMuted : WholeCall → Type 0
ErasedMuted call =
    Accepted call → (bin : ℕ) → bin < call.config.fft_size / 2 + 1 → Erased call bin
    → Muted call bin

-- of every call
abbrev pub ErasedLaw : Type 0
ErasedLaw = (call : Call) → F32Call call → ErasedMuted (whole call)

-- of every call on a lent slice of voice records
abbrev pub LentErasedLaw : Type 0
LentErasedLaw = (call : LentCall) → F32LentCall call → ErasedMuted (whole_lent call)
