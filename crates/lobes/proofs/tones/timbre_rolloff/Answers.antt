-- `lobes::tones::timbre_rolloff` meets its contract, by its two clamps. Assumes nothing.
use mathlib.Core.Path.{◌∙◌}
use Rattle.lobes.specs.Tone.{timbre_rolloff}
use Rattle.lobes.proofs.tones.timbre_rolloff.Goals as goal

pub returns : goal.returns
unfolding timbre_rolloff
returns c = c.clamp-2.ensures ∙ simp c.clamp.ensures
