-- `motion_compensation::compensation_gain` meets its contract: 1 where the field rests, else the
-- definition with what its callees ensure put in. Assumes nothing.
use mathlib.Core.Path.{◌∙◌}
use Rattle.motion_compensation.specs.Compensation.{compensation}
use Rattle.motion_compensation.proofs.compensation_gain.Goals as goal

pub returns-then-config : goal.returns-then-config
unfolding compensation
returns-then-config c = simp c.if-config.true

pub returns : goal.returns
unfolding compensation
returns c = simp c.if-config.false (c.min.ensures ∙ simp (c.single_gain.ensures, c.sqrt-root.ensures, c.mean_square.ensures))
