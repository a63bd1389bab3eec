-- `sine::sin` meets its contract: the wave at the angle's place. Assumes nothing.
use mathlib.Core.Path.{ap, ◌∙◌}
use Rattle.sine.specs.Sine.{wave, sin_of}
use Rattle.sine.proofs.Places.{place-below}
use Rattle.sine.proofs.sin.Goals as goal

pub wave_at-requires : goal.wave_at-requires
wave_at-requires c = rw c.place_in_turn.ensures (place-below c.args.angle)

pub returns : goal.returns
unfolding sin_of
returns c = c.wave_at.ensures ∙ ap wave c.place_in_turn.ensures
