-- The partials of a tone and their lobes. Assumes nothing.
use Rattle.std.specs.Prelude.{List, map, ℕ}
use Rattle.std.specs.Float.Ieee.{lt}
use Rattle.lists.specs.Folds.{take_until, range}
use Rattle.lobes.specs.declared.Grid.{Grid}
use Rattle.lobes.specs.declared.Tone.{Tone}
use Rattle.lobes.specs.declared.Lobe.{Lobe}
use Rattle.lobes.specs.Tone.{center_of}
use Rattle.lobes.specs.Distance.{Logs}
use Rattle.lobes.specs.Lobe.{lobe_of}

-- the partials 1, 2, .. of a tone, before the first whose centre is above nyquist
abbrev pub partials_of : Grid → Tone → List ℕ
partials_of grid tone = take_until (λ partial. lt grid.nyquist (center_of tone partial)) (range 1 grid.partials)

-- their lobes
abbrev pub lobes_of : Grid → Logs → Tone → List Lobe
lobes_of grid logs tone = map (lobe_of grid logs tone) (partials_of grid tone)
