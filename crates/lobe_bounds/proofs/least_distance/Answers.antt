-- `least_distance` is the definition's, by its three calls. Assumes nothing.
use Rattle.lobe_bounds.proofs.least_distance.Goals as goal

pub returns : goal.returns
returns c = rw (← c.max.ensures, ← c.max-2.ensures) c.in_widths.ensures
