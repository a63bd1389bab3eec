-- `pitches_allowed` meets its contract: the test from here on answers what the whole test does.
-- Assumes nothing.
use mathlib.Core.Path.{◌≡◌}
use Prim.Native.Nat.{◌+◌, ◌*◌, ◌-◌}
use lib.ListN.{drop}
use Rattle.record_voices.specs.Voices.{pitches_allowed}
use Rattle.record_voices.proofs.pitches_allowed.Given as goal

abbrev pub invariant-loop-i : goal.invariant-loop-i
invariant-loop-i l =
    pitches_allowed (drop (l.at + 29 * l.i) l.record) (l.count - l.i)
    ≡ pitches_allowed (drop l.at l.record) l.count
