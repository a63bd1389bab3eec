-- `sine::cos` meets its contract: the wave a quarter of a turn past the angle's place. Assumes
-- nothing.
use borrow.Author.Rules.{rules}
use mathlib.Core.Path.{ap, ◌∙◌}
use Prim.Native.Nat.{ℕ, ◌+◌, ◌%◌, ◌<◌}
use native.Mathlib.Omega.{arith}
use lib.Bits.{bit_and, mask_lt, and_mask}
use Rattle.sine.specs.Sine.{wave, cos_of}
use Rattle.sine.proofs.Places.{place-below}
use Rattle.sine.proofs.cos.Goals as goal

in-turn : (n : ℕ) → bit_and n 16777215 < 16777216
in-turn n = mask_lt n 24

pub overflow_add-place_in_turn : goal.overflow_add-place_in_turn
overflow_add-place_in_turn c = let l = place-below c.args.angle in omega (arith, c.place_in_turn.ensures)

pub wave_at-requires : goal.wave_at-requires
wave_at-requires c = search (rules, in-turn)

pub returns : goal.returns
unfolding cos_of
returns c =
    c.wave_at.ensures
    ∙ ap wave (and_mask _ 24 ∙ ap (λ (z : ℕ). (z + 4194304) % 16777216) c.place_in_turn.ensures)
