-- `voices_at` meets its contract: the array fills from its start. Assumes nothing.
use mathlib.Core.Path.{◌≡◌}
use lib.ListN.{drop}
use Rattle.scene.specs.Gathered.{gathered_to}
use Rattle.record_voices.specs.Voices.{voices_of}
use Rattle.record_voices.proofs.voices_at.Given as goal

abbrev pub invariant-loop-i : goal.invariant-loop-i
invariant-loop-i l =
    l.voices ≡ gathered_to l.i (voices_of (drop l.at l.record) l.count)
