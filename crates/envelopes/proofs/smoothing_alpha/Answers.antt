-- `envelopes::smoothing_alpha` meets its contract, by its test. Assumes nothing.
use Rattle.envelopes.specs.Envelope.{smoothing_alpha}
use Rattle.envelopes.proofs.smoothing_alpha.Goals as goal

pub returns-then-time_seconds : goal.returns-then-time_seconds
unfolding smoothing_alpha
returns-then-time_seconds c = simp c.if-time_seconds.true

pub returns : goal.returns
unfolding smoothing_alpha
returns c = simp (c.if-time_seconds.false, c.exp.ensures)
