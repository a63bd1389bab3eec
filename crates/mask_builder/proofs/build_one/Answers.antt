-- `build_one` meets its contract: the openness of every bin, and then its gain. Assumes nothing.
use Rattle.mask_builder.proofs.Built.{finished}
use borrow.Author.Rules.{rules}
use Rattle.mask_builder.proofs.build_one.Goals as goal

pub returns : goal.returns
returns c =
    finished _ _ _ _ _ _ (search rules) c.open_mono.ensures c.finish_one.ensures
