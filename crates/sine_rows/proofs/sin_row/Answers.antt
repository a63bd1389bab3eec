-- `sin_row` is the waves with nothing ahead: a place is below the turn. Assumes nothing.
use mathlib.Core.Path.{◌≡◌, ap, ◌∙◌}
use Prim.Native.Nat.{ℕ, ◌%◌}
use native.Mathlib.Nat.{add-zero, mod-eq_of_lt}
use lib.Ieee.{Float}
use Rattle.lists.specs.Stages.{stage-same}
use Rattle.sine.specs.Sine.{U, wave, sin_of}
use Rattle.sine.specs.Rows.{place_ahead}
use Rattle.sine.proofs.Places.{place-below}
use Rattle.sine_rows.proofs.sin_row.Goals as goal

none_ahead : (θ : Float) → wave (place_ahead 0 θ) ≡ sin_of θ
unfolding sin_of
none_ahead θ = ap wave (ap (λ (z : ℕ). z % 16777216) (add-zero (U θ)) ∙ mod-eq_of_lt (place-below θ))

pub returns : goal.returns
returns c = c.waves_ahead.ensures ∙ stage-same (λ k angle. wave (place_ahead 0 angle)) (λ k angle. sin_of angle) 0 _ _ (λ k angle p q. none_ahead angle)
