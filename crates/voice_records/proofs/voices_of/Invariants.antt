-- `voices_of` meets its contract: the array fills from its start. Assumes nothing.
use mathlib.Core.Path.{◌≡◌}
use Rattle.scene.specs.Gathered.{gathered_to}
use Rattle.voice_records.specs.VoiceRecords.{voices_of_record}
use Rattle.voice_records.proofs.voices_of.Given as goal

abbrev pub invariant-loop-i : goal.invariant-loop-i
invariant-loop-i l = l.voices ≡ gathered_to l.i (voices_of_record l.records)
