-- `whole_root` meets its contract. The loop's invariant: the digits found so far are those of the
-- root from the place k up. Assumes nothing.
use Rattle.square_root.proofs.WholeRoot.{DigitsFrom}
use Rattle.square_root.proofs.whole_root.Given as goal

abbrev pub invariant-loop-k : goal.invariant-loop-k
invariant-loop-k l = DigitsFrom l.k l.n l.r
