-- `gather` meets its contract: the array fills from its start, record by record. Assumes nothing.
use Rattle.std.proofs.Common.{◌≡◌}
use Rattle.scene.specs.Gathered.{gathered_to}
use Rattle.voice_records.specs.VoiceRecords.{voices_of_record}
use Rattle.crossing_voices.proofs.gather.Given as goal

abbrev pub invariant-loop-i : goal.invariant-loop-i
invariant-loop-i l = l.array ≡ gathered_to l.i (voices_of_record l.records)
