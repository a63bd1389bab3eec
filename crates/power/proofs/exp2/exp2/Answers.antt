-- `exp2` meets its contract: beyond the ends by its tests, and between them by `power_between`.
-- Assumes nothing.
use mathlib.Core.Path.{◌≡◌, sym, subst, ◌∙◌}
use mathlib.Core.Bool.{Bool, true, false, not, true≢false}
use lib.Dec.{T}
use lib.Ieee.{binary32, fits, le, lt, of_bits}
use Rattle.float32.specs.Order.{within}
use Rattle.power.specs.Power.{lowest, limit}
use Rattle.power.proofs.InSteps.{highest, near-from, near-under, not-from, not-under}
use Rattle.power.proofs.exp2.exp2.Goals.{Start, Then-in_range}
use Rattle.power.proofs.exp2.exp2.Given.{Over}
use Rattle.power.proofs.exp2.exp2.Goals as goal

held : (g : Over) (c : Start g) → T (fits binary32 c.args.x)
held g c = subst T (sym c.well_formed.1.0.1) tt

passed : (b : Bool) → not b ≡ false → T b
passed true e = tt
passed false e = absurd (true≢false e)

ranged : (g : Over) (c : Then-in_range g) → T (within lowest highest c.args.x)
unfolding of_bits
ranged g c = subst T (sym (sym c.in_range.ensures ∙ c.if-in_range.true)) tt

pub power_between-requires : goal.power_between-requires
power_between-requires g c =
    let s = c.before.before in
    let x = s.args.x in
    (near-from x (held g s) (ranged g c), near-under x (held g s) (ranged g c))

pub returns-then-in_range : goal.returns-then-in_range
returns-then-in_range g c = c.power_between.ensures

pub returns-then-not-x : goal.returns-then-not-x
unfolding of_bits
returns-then-not-x g c =
    let s = c.before.before.before in
    not-from s.args.x (held g s) (subst T (sym c.if-not-x.true-raw) tt)

pub returns-then-not-x-2 : goal.returns-then-not-x-2
unfolding of_bits
returns-then-not-x-2 g c =
    let s = c.before.before.before.before in
    not-under s.args.x (held g s) (passed (le lowest s.args.x) c.if-not-x.false-raw) (subst T (sym c.if-not-x-2.true-raw) tt)

pub power_between-requires-2 : goal.power_between-requires-2
unfolding of_bits
power_between-requires-2 g c =
    let s = c.before.before.before.before in
    let x = s.args.x in
    (passed (le lowest x) c.if-not-x.false-raw, passed (lt x limit) c.if-not-x-2.false-raw)

pub returns : goal.returns
returns g c = c.power_between-2.ensures
