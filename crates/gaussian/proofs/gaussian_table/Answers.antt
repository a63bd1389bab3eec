-- `gaussian_table` meets its contract: the code's entries are those of specs/Table.antt. Assumes
-- nothing.
use mathlib.Core.Path.{refl}
use Rattle.gaussian.specs.Table.{gaussian_table, gaussian_bits}
use Rattle.gaussian.proofs.gaussian_table.Goals as goal

pub invariant_of-result : goal.invariant_of-result
unfolding gaussian_table gaussian_bits
invariant_of-result c = record { is_gaussian_table = refl }
