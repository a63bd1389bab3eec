-- `motion_compensation::octaves::octave_table` meets its contract: the code's entries are those of
-- specs/Octaves.antt. Assumes nothing.
use mathlib.Core.Path.{refl}
use Rattle.motion_compensation.specs.Octaves.{octave_bits, octave_table}
use Rattle.motion_compensation.proofs.octaves.octave_table.Goals as goal

pub returns : goal.returns
unfolding octave_table octave_bits
returns c = refl
