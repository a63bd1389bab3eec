-- `floor_to_count` meets its contract: the definition is `count_of`, rounded down. Assumes nothing.
use Rattle.counts.proofs.floor_to_count.Goals as goal

pub returns : goal.returns
returns c = c.to_count.ensures
