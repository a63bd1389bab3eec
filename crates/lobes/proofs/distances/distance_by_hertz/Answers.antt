-- `lobes::distances::distance_by_hertz` meets its contract: no table was lent. Assumes nothing.
use mathlib.Core.Path.{◌∙◌}
use Rattle.float32.proofs.Sums.{in-float}
use Rattle.lobes.specs.Distance.{distance}
use Rattle.lobes.proofs.distances.distance_by_hertz.Goals as goal

pub int_to_float-hertz : goal.int_to_float-hertz
int_to_float-hertz c = in-float _ c.requires

pub returns : goal.returns
unfolding distance
returns c = c.in_widths.ensures ∙ simp c.log2.ensures
