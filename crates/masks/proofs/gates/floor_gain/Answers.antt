-- `floor_gain` is its definition, by what `max` and `single_gain` ensure. Assumes nothing.
use Rattle.masks.specs.Gates.{floor_gain}
use Rattle.masks.proofs.gates.floor_gain.Goals as goal

pub returns : goal.returns
unfolding floor_gain
returns c = simp (c.single_gain.ensures, c.max.ensures)
