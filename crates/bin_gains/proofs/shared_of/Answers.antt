-- `shared_of` meets its contract, field by field. Assumes nothing.
use mathlib.Core.Path.{refl}
use Rattle.bin_gains.proofs.shared_of.Goals as goal

pub returns : goal.returns
returns c =
    rw (← c.bin_hz.ensures, ← c.settled.ensures, ← c.compensation_gain.ensures, ← c.floor_gain.ensures, ← c.emphasis.ensures) refl
