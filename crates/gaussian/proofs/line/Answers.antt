-- `gaussian::line` meets its contract: its steps are the definition's, over the table that it is
-- lent. Both entries are at most the last. Assumes nothing.
use Rattle.gaussian.proofs.line.Goals as goal

pub returns : goal.returns
returns c = simp (c.args.gaussians.now.is_gaussian_table, c.min-right.ensures)
