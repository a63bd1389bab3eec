-- `lobes::tones::pressure_gain` meets its contract. Assumes nothing.
use Rattle.lobes.specs.Tone.{pressure_gain}
use Rattle.lobes.proofs.tones.pressure_gain.Goals as goal

pub returns : goal.returns
unfolding pressure_gain
returns c = simp c.clamp.ensures
