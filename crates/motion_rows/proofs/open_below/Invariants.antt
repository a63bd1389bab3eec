-- `open_below` replaces the first `count` entries: each entry below k is open if its frequency is
-- below the lowest shown. Assumes nothing.
use Prim.Native.Nat.{◌+◌, ◌≤◌}
use lib.Ieee.{lt}
use Rattle.lists.specs.Turned.{Turned}
use mathlib.Core.Bool.{cond}
use Rattle.float32.specs.Remainder.{one}
use Rattle.motion.specs.Field.{min_display_frequency_hz}
use Rattle.frequencies.specs.Frequency.{hertz}
use Rattle.motion_rows.proofs.open_below.Given as goal

abbrev pub invariant-loop-k : goal.invariant-loop-k
invariant-loop-k l = Turned (λ k opened. cond (lt (hertz l.bin_hz (l.start + k)) min_display_frequency_hz) one opened) 0 l.initial.row l.row l.k × (l.k ≤ l.count)
