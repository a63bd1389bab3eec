-- `frequencies::bin_hz` meets its contract. Assumes nothing.
use Rattle.float32.proofs.Sums.{in-float}
use Rattle.frequencies.proofs.bin_hz.Goals as goal

pub int_to_float-result : goal.int_to_float-result
int_to_float-result c = in-float _ c.requires
