-- `put_floats` meets its contract: the floats passed stand one after the other. Assumes nothing.
use mathlib.Core.Path.{◌≡◌}
use lib.ListN.{length, take}
use Rattle.record_words.specs.Floats.{floats_bytes}
use Rattle.lists.specs.Stores.{stored}
use Rattle.record_words.proofs.put_floats.Given as goal

abbrev pub invariant-loop-i : goal.invariant-loop-i
invariant-loop-i l =
    (length l.bytes ≡ length l.initial.bytes) ×
    (l.bytes ≡ stored l.initial.bytes l.at (floats_bytes (take l.i l.floats)))
