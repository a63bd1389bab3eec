-- `power_table` meets its contract: the code's entries are those of specs/Table.antt. Assumes
-- nothing.
use mathlib.Core.Path.{refl}
use Rattle.power.specs.Table.{power_table}
use Rattle.power.proofs.table.power_table.Goals as goal

pub invariant_of-result : goal.invariant_of-result
unfolding power_table
invariant_of-result c = record { is_power_table = refl }
