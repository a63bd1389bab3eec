-- `waves_ahead` walks along the row: the angles below `start` are done. Assumes nothing.
use mathlib.Core.Path.{◌≡◌}
use Prim.Native.Nat.{◌≤◌}
use lib.ListN.{length}
use Rattle.lists.specs.Turned.{Turned}
use Rattle.sine.specs.Sine.{wave}
use Rattle.sine.specs.Rows.{place_ahead}
use Rattle.sine_rows.proofs.waves_ahead.Given as goal

abbrev pub invariant-loop-start : goal.invariant-loop-start
invariant-loop-start l =
    Turned (λ i angle. wave (place_ahead l.ahead angle)) 0 l.initial.row l.row l.start × (l.start ≤ l.count) × (length l.found ≡ 64) × (length l.indexes ≡ 64) × (length l.parts ≡ 64)
