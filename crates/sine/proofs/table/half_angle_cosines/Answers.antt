-- `sine::table::half_angle_cosines` meets its contract: the constant is K, entry by entry. Assumes
-- nothing.
use mathlib.Core.Path.{refl}
use Rattle.sine.specs.Table.{half_angle_cosines}
use Rattle.sine.proofs.table.half_angle_cosines.Goals as goal

pub returns : goal.returns
unfolding half_angle_cosines
returns c = refl
