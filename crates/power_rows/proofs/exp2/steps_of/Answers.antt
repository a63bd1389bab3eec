-- `steps_of` subtracts the excess over 128 that `far_steps` adds to x. Assumes nothing.
use mathlib.Core.Path.{◌≡◌, sym, subst, ◌∙◌}
use Prim.Native.Nat.{◌+◌, ◌*◌, ◌^◌}
use native.Mathlib.Omega.{arith}
use lib.Dec.{T}
use lib.Ieee.{binary32, fits}
use Rattle.float32.specs.Value.{moved}
use Rattle.power.proofs.InSteps.{far-range, far-is, steps-below}
use Rattle.power_rows.proofs.Exp2Staged.{between-low, between-high}
use Rattle.power_rows.proofs.exp2.steps_of.Goals.{After-far_steps, Start}
use Rattle.power_rows.proofs.exp2.steps_of.Goals as goal

held : (s : Start) → T (fits binary32 s.args.x)
held s = subst T (sym s.well_formed.0.1) tt

pub far_steps-requires : goal.far_steps-requires
far_steps-requires c = let x = c.args.x in far-range x (held c) (between-low x c.requires) (between-high x c.requires)

far-y : (c : After-far_steps) → c.far_steps.result ≡ 8388480 * 2 ^ 24 + moved 128 c.args.x
far-y c =
    c.far_steps.ensures ∙ far-is c.args.x (held c.before) (between-low c.args.x c.requires) (between-high c.args.x c.requires)

pub overflow_sub-result : goal.overflow_sub-result
overflow_sub-result c = omega (arith, far-y c)

pub overflow_cast-result : goal.overflow_cast-result
overflow_cast-result c =
    let b = steps-below c.args.x (held c.before) (between-low c.args.x c.requires) (between-high c.args.x c.requires) in
    omega (arith, far-y c)

pub returns : goal.returns
returns c = omega (arith, far-y c)
