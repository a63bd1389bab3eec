-- `cos_row` is the waves a quarter of a turn ahead. Assumes nothing.
use mathlib.Core.Path.{◌≡◌, refl, ◌∙◌}
use lib.Ieee.{Float}
use Rattle.lists.specs.Stages.{stage-same}
use Rattle.sine.specs.Sine.{wave, cos_of}
use Rattle.sine.specs.Rows.{place_ahead}
use Rattle.sine_rows.proofs.cos_row.Goals as goal

quarter-ahead : (θ : Float) → wave (place_ahead 4194304 θ) ≡ cos_of θ
unfolding cos_of
quarter-ahead θ = refl

pub returns : goal.returns
returns c = c.waves_ahead.ensures ∙ stage-same (λ k angle. wave (place_ahead 4194304 angle)) (λ k angle. cos_of angle) 0 _ _ (λ k angle p q. quarter-ahead angle)
