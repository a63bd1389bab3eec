-- No accepted call takes the logarithm of a centre off its domain. Assumes nothing.
use Rattle.std.specs.Prelude.{ℕ, ◌<◌, length, get_or}
use Rattle.scene.specs.Accepted.{no_voice}
use Rattle.lobes.specs.Grid.{grid_of}
use Rattle.lobes.specs.Centers.{CentersNormal}
use Rattle.chord_law.specs.Calls.{WholeCall, Call, F32Call, Accepted, whole}

-- each centre of a voice that counts is a positive normal number
abbrev pub CentersInDomain : WholeCall → Type 0
CentersInDomain call =
    (i : ℕ) → i < length call.voices
    → CentersNormal (grid_of call.config) (get_or call.voices i no_voice)

-- of every accepted call
abbrev pub CentersLaw : Type 0
CentersLaw = (call : Call) → F32Call call → Accepted (whole call) → CentersInDomain (whole call)
