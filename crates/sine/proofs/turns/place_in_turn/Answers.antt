-- `sine::turns::place_in_turn` meets its contract: the steps of u, masked, are its floor in units
-- of 2 ^ -24 mod 2 ^ 24 (Places.antt). Assumes nothing.
use mathlib.Core.Path.{sym, ap, subst, ◌∙◌}
use mathlib.Core.Bool.{not}
use Prim.Native.Nat.{ℕ}
use lib.Bits.{bit_and}
use lib.Dec.{T}
use lib.Ieee.{Float, binary32, neg, le, fits, of_bits}
use lib.Ieee.Fits.{mul-fits}
use Rattle.float32.specs.Order.{within, magnitude}
use Rattle.fixed_point.specs.Fixed.{nearby, farthest, least}
use Rattle.sine.specs.Sine.{u, U, turns_per_radian}
use Rattle.sine.proofs.Places.{near-place, far-place, beyond-place}
use Rattle.sine.proofs.turns.place_in_turn.Goals.{Else-in_range-2, Then-abs, Then-in_range-2}
use Rattle.sine.proofs.turns.place_in_turn.Goals as goal

held : (θ : Float) → T (fits binary32 (u θ))
held θ = mul-fits binary32 θ turns_per_radian

-- ---- the two ranges
module _ (c : Then-abs) where
  abbrev near-u : Float
  near-u = u c.args.angle

  near-ranged : T (within (neg nearby) nearby near-u)
  unfolding of_bits neg
  near-ranged = subst T (sym (sym c.in_range.ensures ∙ c.if-in_range.true)) tt

  large-enough : T (le least (magnitude near-u))
  unfolding of_bits
  large-enough = subst T (sym (ap (le least) (sym c.abs.ensures) ∙ c.if-abs.true)) tt

pub near_steps-requires : goal.near_steps-requires
near_steps-requires c = (near-ranged c, large-enough c)

pub returns-then-abs : goal.returns-then-abs
unfolding U
returns-then-abs d =
    let c = d.before in
    ap (λ (n : ℕ). bit_and n 16777215) d.near_steps.ensures ∙ near-place (near-u c) (held c.args.angle) (near-ranged c)

far-ranged : (c : Then-in_range-2) → T (within (neg farthest) farthest (u c.args.angle))
unfolding of_bits neg
far-ranged c = subst T (sym (sym c.in_range-2.ensures ∙ c.if-in_range-2.true)) tt

pub far_steps-requires : goal.far_steps-requires
far_steps-requires c = far-ranged c

pub returns-then-in_range-2 : goal.returns-then-in_range-2
unfolding U
returns-then-in_range-2 d =
    let c = d.before in
    let θ = c.args.angle in
    ap (λ (n : ℕ). bit_and n 16777215) d.far_steps.ensures ∙ far-place (u θ) (held θ) (far-ranged c)

-- ---- beyond both
not-ranged : (c : Else-in_range-2) → T (not (within (neg farthest) farthest (u c.args.angle)))
unfolding of_bits neg
not-ranged c = subst (λ b. T (not b)) (sym (sym c.in_range-2.ensures ∙ c.if-in_range-2.false)) tt

pub returns : goal.returns
unfolding U
returns c = let θ = c.args.angle in beyond-place (u θ) (held θ) (not-ranged c)
