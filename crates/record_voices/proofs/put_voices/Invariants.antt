-- `put_voices` meets its contract: the voices passed stand one after the other. Assumes nothing.
use mathlib.Core.Path.{◌≡◌}
use lib.ListN.{length, take}
use Rattle.lists.specs.Stores.{stored}
use Rattle.record_voices.specs.Voices.{voices_bytes}
use Rattle.record_voices.proofs.put_voices.Given as goal

abbrev pub invariant-loop-i : goal.invariant-loop-i
invariant-loop-i l =
    (length l.record ≡ length l.initial.record)
    × (l.record ≡ stored l.initial.record l.at (voices_bytes (take l.i l.voices)))
