-- `gate_at` meets its contract in either case of its test. Assumes nothing.
use mathlib.Core.Path.{◌∙◌}
use Rattle.bin_gains.specs.Gains.{gate_at}
use Rattle.bin_gains.proofs.gate_at.Goals as goal

pub returns-then-config : goal.returns-then-config
unfolding gate_at
returns-then-config c = c.gate_gain.ensures ∙ simp (c.requires, c.if-config.true)

pub returns : goal.returns
unfolding gate_at
returns c = simp c.if-config.false
