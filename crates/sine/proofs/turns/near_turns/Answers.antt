-- `near_turns` answers u where it is in range; beyond it the place is 0 (Places.antt), as is that
-- of 0 turns. Assumes nothing.
use mathlib.Core.Path.{refl, sym, subst, ◌∙◌}
use mathlib.Core.Bool.{not}
use lib.Dec.{T}
use lib.Ieee.{Float, binary32, neg, le, fits, of_bits}
use lib.Ieee.Fits.{mul-fits}
use Rattle.float32.specs.Value.{moved}
use Rattle.float32.specs.Order.{within}
use Rattle.fixed_point.specs.Fixed.{farthest}
use Rattle.sine.specs.Sine.{u, U, turns_per_radian}
use Rattle.sine.proofs.Places.{beyond-place}
use Rattle.sine.proofs.turns.near_turns.Goals.{Else-in_range, Then-in_range}
use Rattle.sine.proofs.turns.near_turns.Goals as goal

ranged : (c : Then-in_range) → T (within (neg farthest) farthest (u c.args.angle))
unfolding of_bits neg
ranged c = subst T (sym (sym c.in_range.ensures ∙ c.if-in_range.true)) tt

not-ranged : (c : Else-in_range) → T (not (within (neg farthest) farthest (u c.args.angle)))
unfolding of_bits neg
not-ranged c = subst (λ b. T (not b)) (sym (sym c.in_range.ensures ∙ c.if-in_range.false)) tt

held : (θ : Float) → T (fits binary32 (u θ))
held θ = mul-fits binary32 θ turns_per_radian

pub returns-then-in_range : goal.returns-then-in_range
unfolding U
returns-then-in_range c = (held c.args.angle, ranged c, refl)

pub returns : goal.returns
unfolding U moved of_bits fits within neg le
returns c = let θ = c.args.angle in (tt, tt, beyond-place (u θ) (held θ) (not-ranged c))
