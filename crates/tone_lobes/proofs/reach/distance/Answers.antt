-- `lobes::reach::distance` meets its contract: where a table was lent the logarithms come from it.
-- Assumes nothing.
use mathlib.Core.Path.{◌∙◌}
use Rattle.lobes.specs.Distance.{IfLent, distance}
use Rattle.tone_lobes.proofs.reach.distance.Goals as goal

pub distance_by_table-requires : goal.distance_by_table-requires
unfolding IfLent
distance_by_table-requires c = rw c.in-Some.is at c.requires.2

pub returns-in-Some : goal.returns-in-Some
unfolding distance
returns-in-Some c = rw c.in-Some.is (c.distance_by_table.ensures ∙ simp c.requires.0)

pub returns-in-None : goal.returns-in-None
returns-in-None c = rw c.in-None.is c.distance_by_hertz.ensures
