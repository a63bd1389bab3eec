-- `exponents` replaces the first `count` octaves: of those below k each is the exponent of its
-- bell. Assumes nothing.
use Prim.Native.Nat.{◌≤◌}
use lib.Ieee.{binary32, mul}
use Rattle.lists.specs.Turned.{Turned}
use Rattle.lobes.specs.Distance.{minus_half, in_widths}
use Rattle.lobe_rows.specs.Stages.{relative_to}
use Rattle.lobe_rows.proofs.by_frequency.exponents.Given as goal

abbrev pub invariant-loop-k : goal.invariant-loop-k
invariant-loop-k l = Turned (λ k octaves. mul binary32 minus_half (relative_to l.peak_squared (in_widths l.width octaves))) 0 l.initial.chunk l.chunk l.k × (l.k ≤ l.count)
