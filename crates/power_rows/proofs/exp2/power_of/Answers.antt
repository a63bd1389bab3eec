-- `power_of` meets its contract: beyond the ends by a test, and between them what was found is the
-- power. Assumes nothing.
use mathlib.Core.Path.{◌≡◌, sym, subst, ◌∙◌}
use mathlib.Core.Bool.{Bool, true, false, not, true≢false}
use lib.Dec.{T}
use lib.Ieee.{binary32, fits, le, lt, of_bits}
use Rattle.power.specs.Power.{lowest, limit}
use Rattle.power.proofs.InSteps.{not-from, not-under}
use Rattle.power_rows.proofs.Exp2Staged.{found_from, found-power}
use Rattle.power_rows.proofs.exp2.power_of.Goals.{Start}
use Rattle.power_rows.proofs.exp2.power_of.Goals as goal

held : (s : Start) → T (fits binary32 s.args.x)
held s = subst T (sym s.well_formed.0.1) tt

passed : (b : Bool) → not b ≡ false → T b
passed true e = tt
passed false e = absurd (true≢false e)

pub made_of-power-requires : goal.made_of-power-requires
made_of-power-requires c = (found_from c.args.x c.args.y c.args.q c.requires, c.requires.power)

pub returns-then-not-x : goal.returns-then-not-x
unfolding of_bits
returns-then-not-x c = not-from c.args.x (held c.before.before) (subst T (sym c.if-not-x.true-raw) tt)

pub returns-then-not-x-2 : goal.returns-then-not-x-2
unfolding of_bits
returns-then-not-x-2 c =
    not-under c.args.x (held c.before.before.before) (passed (le lowest c.args.x) c.if-not-x.false-raw) (subst T (sym c.if-not-x-2.true-raw) tt)

pub returns : goal.returns
unfolding of_bits
returns c =
    c.made_of-power.ensures ∙ found-power c.args.x c.args.y c.args.q c.requires (passed (le lowest c.args.x) c.if-not-x.false-raw) (passed (lt c.args.x limit) c.if-not-x-2.false-raw)
