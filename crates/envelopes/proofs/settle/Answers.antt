-- `envelopes::settle` meets its contract: its test is the one on the magnitude. Assumes nothing.
use mathlib.Core.Path.{◌≡◌, sym, subst}
use lib.Dec.{T}
use lib.Ieee.{lt}
use Rattle.float32.specs.Order.{magnitude}
use Rattle.envelopes.specs.Envelope.{SILENCE, settled}
use Rattle.envelopes.proofs.Silence.{silence-from-zero}
use Rattle.envelopes.proofs.settle.Goals.{Start}
use Rattle.envelopes.proofs.settle.Goals as goal

test-is : (c : Start) → lt (magnitude c.args.level) SILENCE ≡ lt c.args.level SILENCE
test-is c = silence-from-zero c.args.level (subst T (sym c.well_formed.0.1) tt) c.requires

pub returns-then-level : goal.returns-then-level
unfolding settled
returns-then-level c = simp (test-is c.before, c.if-level.true)

pub returns-else-level : goal.returns-else-level
unfolding settled
returns-else-level c = simp (test-is c.before, c.if-level.false)
