-- `power_between` meets its contract: the power of floor ((x + 128) * 2 ^ 24) steps, whose high and
-- low bits are N and F. Assumes nothing.
use mathlib.Core.Path.{sym, ap, subst, ◌∙◌}
use native.Mathlib.Nat.{lt_of_le_of_lt}
use lib.Bits.{and_mask, and_le_r}
use lib.Dec.{T, lit<}
use Rattle.power.specs.Table.{I}
use Rattle.power.proofs.InSteps.{InSteps, in-steps}
use Rattle.power.proofs.exp2.power_between.Goals.{After-steps-y}
use Rattle.power.proofs.exp2.power_between.Given.{Over}
use Rattle.power.proofs.exp2.power_between.Goals as goal

found : (g : Over) (c : After-steps-y g) → InSteps c.args.x c.steps-y.result
found g c =
    let s = c.before in
    in-steps s.args.x c.steps-y.result (subst T (sym s.well_formed.1.0.1) tt) s.requires.0 s.requires.1 c.steps-y.ensures

pub steps-y-requires : goal.steps-y-requires
steps-y-requires g s = s.requires

pub interpolate-requires : goal.interpolate-requires
interpolate-requires g c = lt_of_le_of_lt (and_le_r c.steps-y.result _) (lit< tt)

pub power_of_steps-requires : goal.power_of_steps-requires
power_of_steps-requires g c =
    let f = found g c.before in
    (f.from, f.below, c.interpolate.ensures ∙ ap I (and_mask c.steps-y.result 24))

pub returns : goal.returns
returns g c = (found g c.before.before).power c.power_of_steps.ensures
