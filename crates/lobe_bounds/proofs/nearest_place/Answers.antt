-- `nearest_place` is the definition's, by its four calls. Assumes nothing.
use Rattle.lobe_bounds.proofs.nearest_place.Goals as goal

pub returns : goal.returns
returns c = rw (← c.least_distance-distance.ensures, ← c.powi2.ensures, ← c.max.ensures) c.position.ensures
