-- `lobes::tones::note_level` meets its contract: its factors are in the definition's order.
-- Assumes nothing.
use Rattle.lobes.specs.Tone.{note_level}
use Rattle.lobes.proofs.tones.note_level.Goals as goal

pub returns : goal.returns
unfolding note_level
returns c = simp (c.pressure_gain.ensures, c.max.ensures)
