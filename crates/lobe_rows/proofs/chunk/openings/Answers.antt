-- `openings` uses the table if one is lent, and the bins' frequencies otherwise. Assumes nothing.
use Rattle.lobes.specs.Distance.{IfLent}
use Rattle.lobe_rows.proofs.chunk.openings.Goals as goal

pub openings_by_table-requires : goal.openings_by_table-requires
unfolding IfLent
openings_by_table-requires c =
    (c.requires.0, record { log-of-center = c.requires.1.log-of-center; inside = rw c.in-Some.is at c.requires.1.inside })

pub returns-in-Some : goal.returns-in-Some
returns-in-Some c = rw c.in-Some.is c.openings_by_table.ensures

pub returns-in-None : goal.returns-in-None
returns-in-None c = rw c.in-None.is c.openings_by_frequency.ensures
