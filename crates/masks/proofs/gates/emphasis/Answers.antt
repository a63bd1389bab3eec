-- `emphasis` is `emphasis_gain`, by what its callees ensure. Assumes nothing.
use Rattle.masks.specs.Gates.{emphasis_gain}
use Rattle.masks.proofs.gates.emphasis.Goals as goal

pub returns : goal.returns
unfolding emphasis_gain
returns c = simp (c.single_gain.ensures, c.smoothstep-narrowness.ensures, c.width_position.ensures)
