-- `place_ahead` adds to the place that `near_turns` keeps, and the mask takes a whole turn away
-- again. Assumes nothing.
use mathlib.Core.Path.{◌≡◌, ap, ◌∙◌}
use Prim.Native.Nat.{ℕ, ◌+◌, ◌%◌}
use native.Mathlib.Omega.{arith}
use lib.Bits.{bit_and, and_mask, mask_lt}
use Rattle.sine.specs.Sine.{U}
use Rattle.sine.proofs.Places.{far-place}
use Rattle.sine.proofs.turns.place_ahead.Goals.{After-far_steps}
use Rattle.sine.proofs.turns.place_ahead.Goals as goal

pub overflow_add-result : goal.overflow_add-result
overflow_add-result c = let m = mask_lt c.far_steps.result 24 in record { fits = omega arith }

pub overflow_cast-result : goal.overflow_cast-result
overflow_cast-result c = let m = mask_lt (bit_and c.far_steps.result 16777215 + c.args.ahead) 24 in omega arith

place_is : (c : After-far_steps) → bit_and c.far_steps.result 16777215 ≡ U c.args.angle
place_is c =
    let n = c.near_turns in
    ap (λ (z : ℕ). bit_and z 16777215) c.far_steps.ensures ∙ far-place n.result n.ensures.0 n.ensures.1 ∙ n.ensures.2

pub returns : goal.returns
returns c = and_mask _ 24 ∙ ap (λ (z : ℕ). (z + c.args.ahead) % 16777216) (place_is c)
