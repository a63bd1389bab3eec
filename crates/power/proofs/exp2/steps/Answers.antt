-- `steps` meets its contract: what `near_steps` and `far_steps` give is floor ((x + 128) * 2 ^ 24)
-- and whole steps more. Assumes nothing.
use mathlib.Core.Path.{◌≡◌, sym, ap, subst, ◌∙◌}
use Prim.Native.Nat.{◌+◌, ◌*◌, ◌^◌}
use native.Mathlib.Omega.{arith}
use lib.Dec.{T}
use lib.Ieee.{binary32, fits, le, of_bits}
use Rattle.float32.specs.Value.{moved}
use Rattle.float32.specs.Order.{magnitude}
use Rattle.fixed_point.specs.Fixed.{least}
use Rattle.power.proofs.InSteps.{near-range, far-range, near-is, far-is}
use Rattle.power.proofs.exp2.steps.Goals.{After-far_steps, After-near_steps, Start, Then-abs}
use Rattle.power.proofs.exp2.steps.Goals as goal

held : (c : Start) → T (fits binary32 c.args.x)
held c = subst T (sym c.well_formed.0.1) tt

large-enough : (c : Then-abs) → T (le least (magnitude c.args.x))
unfolding of_bits
large-enough c = subst T (sym (ap (le least) (sym c.abs.ensures) ∙ c.if-abs.true)) tt

pub near_steps-requires : goal.near_steps-requires
near_steps-requires c =
    let s = c.before.before in
    (near-range s.args.x (held s) s.requires.0 s.requires.1, large-enough c)

near-y : (d : After-near_steps) → d.near_steps.result ≡ 896 * 2 ^ 24 + moved 128 d.args.x
near-y d =
    let s = d.before.before.before in
    d.near_steps.ensures ∙ near-is s.args.x (held s) s.requires.0 s.requires.1

pub overflow_sub-result : goal.overflow_sub-result
overflow_sub-result d = omega (arith, near-y d)

pub returns-then-abs : goal.returns-then-abs
returns-then-abs d = omega (arith, near-y d)

pub far_steps-requires : goal.far_steps-requires
far_steps-requires c =
    let s = c.before.before in
    far-range s.args.x (held s) s.requires.0 s.requires.1

far-y : (d : After-far_steps) → d.far_steps.result ≡ 8388480 * 2 ^ 24 + moved 128 d.args.x
far-y d =
    let s = d.before.before.before in
    d.far_steps.ensures ∙ far-is s.args.x (held s) s.requires.0 s.requires.1

pub overflow_sub-result-2 : goal.overflow_sub-result-2
overflow_sub-result-2 d = omega (arith, far-y d)

pub returns : goal.returns
returns d = omega (arith, far-y d)
