-- `partial_octaves` meets its contract: its entries are those that were computed. Assumes nothing.
use Rattle.lobes.proofs.Logged.{octaves-listed}
use Rattle.lobes.proofs.octaves.partial_octaves.Goals as goal

pub invariant_of-result : goal.invariant_of-result
invariant_of-result c = record { is_partial_octaves = octaves-listed }
