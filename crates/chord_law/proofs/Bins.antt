-- The chord law bin by bin: a mask has size/2 + 1 bins, and the law compares each. Assumes nothing.
use mathlib.Core.List.{List}
use Prim.Native.Nat.{ℕ, ◌+◌, ◌/◌, ◌<◌}
use lib.Dec.{T}
use lib.ListN.{length, get_or}
use lib.Ieee.{Float, nan, le}
use Rattle.lists.specs.Maps.{length-tab}
use Rattle.lists.specs.Pairs.{all2-at}
use Rattle.lobes.specs.Pan.{Side, left, right}
use Rattle.lobes.specs.Distance.{lent}
use Rattle.mask_builder.specs.Mask.{mask_at}
use Rattle.chord_law.specs.Calls.{Call, given, mask_on}
use Rattle.chord_law.specs.Masks.{NotAbove}
use Rattle.chord_law.specs.Bins.{ChordLawByBins}
use Rattle.chord_law.proofs.Law.{masks-not-above}

at-bin :
    {xs ys : List Float} (bin : ℕ) → NotAbove xs ys → bin < length xs
    → T (le (get_or xs bin nan) (get_or ys bin nan))
at-bin bin w h = all2-at (λ x y. T (le x y)) bin nan w h

has-bin :
    (side : Side) (a : Call) (bin : ℕ) → bin < a.config.fft_size / 2 + 1
    → bin < length (mask_on side a)
has-bin side a bin h =
    let gain = mask_at a.curve a.config (lent a.table) side (given a) in
    rw (length-tab gain 0 (a.config.fft_size / 2 + 1)) h

pub by-bins : ChordLawByBins
by-bins a b fa fb c u bin h =
    let w = masks-not-above a b fa fb c u in
    record {
      left-bin = at-bin bin w.0 (has-bin left a bin h);
      right-bin = at-bin bin w.1 (has-bin right a bin h);
    }
