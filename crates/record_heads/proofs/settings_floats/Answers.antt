-- `settings_floats` meets its contract. Assumes nothing.
use mathlib.Core.Path.{refl}
use Rattle.record_heads.proofs.settings_floats.Goals as goal

pub returns : goal.returns
returns c = refl
