-- `pitch::note_hertz` is `note_hertz`: the code's steps are the definition's, and `exp2` is E2.
-- Assumes nothing.
use mathlib.Core.Path.{ap}
use lib.Ieee.{binary32, mul}
use Rattle.pitch.specs.Pitch.{a4_hertz}
use Rattle.pitch.proofs.note_hertz.Goals as goal

pub returns : goal.returns
returns c = ap (mul binary32 a4_hertz) c.exp2.ensures
