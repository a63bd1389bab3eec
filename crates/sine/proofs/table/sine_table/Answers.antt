-- `sine::table::sine_table` meets its contract: the constant is R, entry by entry. Assumes nothing.
use mathlib.Core.Path.{refl}
use Rattle.sine.specs.Table.{sine_table}
use Rattle.sine.proofs.table.sine_table.Goals as goal

pub invariant_of-result : goal.invariant_of-result
unfolding sine_table
invariant_of-result c = record { is_sine_table = refl }
