-- `lobes::tones::center_of` meets its contract. Assumes nothing.
use Rattle.float32.proofs.Sums.{in-float}
use Rattle.lobes.proofs.tones.center_of.Goals as goal

pub int_to_float-result : goal.int_to_float-result
int_to_float-result c = in-float _ c.requires
