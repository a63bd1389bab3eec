-- `floats_at` meets its contract: each entry passed is the float of its place. Assumes nothing.
use mathlib.Core.Path.{◌≡◌}
use Prim.Native.Nat.{◌+◌, ◌*◌}
use lib.ListN.{length}
use Rattle.lists.specs.Turned.{Turned}
use Rattle.record_words.specs.Floats.{float_at}
use Rattle.record_words.proofs.floats_at.Given as goal

abbrev pub invariant-loop-i : goal.invariant-loop-i
invariant-loop-i l =
    (length l.initial.floats ≡ 7) × Turned (λ k x. float_at l.bytes (l.at + 4 * k)) 0 l.initial.floats l.floats l.i
