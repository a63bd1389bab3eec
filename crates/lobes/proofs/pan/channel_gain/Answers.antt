-- `lobes::pan::channel_gain` meets its contract, by what its callees ensure. Assumes nothing.
use Rattle.lobes.specs.Pan.{channel_gain}
use Rattle.lobes.proofs.pan.channel_gain.Goals as goal

pub returns : goal.returns
unfolding channel_gain
returns c = simp (c.balance.ensures, c.pan_of.ensures, c.expression_of.ensures)
