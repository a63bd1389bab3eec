-- `plain_voices` meets its contract: each entry passed is the plain record of its voice. Assumes
-- nothing.
use mathlib.Core.Path.{◌≡◌}
use Prim.Native.Nat.{◌-◌, ◌≤◌}
use lib.ListN.{length, get_or}
use Rattle.lists.specs.Turned.{Turned}
use Rattle.scene.specs.Accepted.{no_voice}
use Rattle.voice_records.specs.VoiceRecords.{plain_voice}
use Rattle.crossing_scenes.proofs.plain_voices.Given as goal

abbrev pub invariant-loop-i : goal.invariant-loop-i
invariant-loop-i l =
    (length l.initial.records ≡ 128)
    × Turned (λ k x. plain_voice (get_or l.voices k no_voice)) 0 l.initial.records l.records l.i
