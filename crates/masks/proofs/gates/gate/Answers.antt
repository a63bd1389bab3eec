-- `gate` is `limited_gate_gain`, by what its callees ensure. Assumes nothing.
use Rattle.masks.specs.Gates.{limited_gate_gain}
use Rattle.masks.proofs.gates.gate.Goals as goal

pub returns : goal.returns
unfolding limited_gate_gain
returns c = simp (c.gate_gain.ensures, c.clamp.ensures, c.emphasis.ensures, c.floor_gain-floor.ensures)
