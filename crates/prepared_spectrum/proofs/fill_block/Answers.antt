-- `fill_block` leaves the whole block: the two pairs fill it from its front, and the table what is
-- left. Assumes nothing.
use mathlib.Core.Path.{◌≡◌, sym, ap, ◌∙◌}
use mathlib.Core.List.{List, ◌++◌, append_assoc}
use Prim.Native.Nat.{ℕ, ◌*◌, ◌/◌}
use native.Mathlib.Omega.{arith}
use lib.ListN.{length, drop, length-append}
use lib.Seq.{length-take-le}
use lib.Ieee.{Float}
use Rattle.lists.specs.Maps.{tabulate, length-tab}
use Rattle.float_laws.specs.Classes.{dual_at}
use Rattle.windows.specs.Windows.{dual_of}
use Rattle.frequencies.specs.Frequency.{prepared}
use Rattle.prepared_spectrum.specs.Block.{pair_of, logarithms, block_of}
use Rattle.prepared_spectrum.proofs.Filled.{fill-three}
use Rattle.prepared_spectrum.proofs.fill_block.Goals as goal

pub slice_bounds-fill_pair-end-2 : goal.slice_bounds-fill_pair-end-2
slice_bounds-fill_pair-end-2 c = sym (length-take-le _ _ (omega arith))

pub fill_pair-requires : goal.fill_pair-requires
fill_pair-requires c = (length-take-le _ _ (omega arith), omega arith)

joined : (rate : Float) (w s p q l : List Float) (overlap : ℕ) → p ≡ pair_of w overlap → q ≡ pair_of s overlap → l ≡ logarithms rate (length w)
    → (p ++ q) ++ l ≡ block_of rate w s overlap
unfolding block_of
joined rate w s p q l overlap e f g = rw (e, f, g) (simp append_assoc)

pair-length : (w : List Float) (overlap : ℕ) → length (pair_of w overlap) ≡ 2 * length w
pair-length w overlap = omega (arith, length-append w (dual_of w overlap), length-tab (dual_at w (length w / overlap) overlap) 0 (length w))

pub returns : goal.returns
returns c =
    let a = c.args in
    let w = a.window.now in
    let n = length w in
    let one = c.fill_pair in
    let two = c.fill_pair-2 in
    let front : List Float = one.new.block in
    let back : List Float = two.new.block in
    let front_length : length front ≡ 2 * n = ap length one.ensures ∙ pair-length w a.overlap in
    let back-length : length back ≡ 2 * length a.smooth.now = ap length two.ensures ∙ pair-length a.smooth.now a.overlap in
    let table : c.fill.new.table ≡ logarithms a.sample_rate n =
    c.fill.ensures ∙ ap (λ (k : ℕ). tabulate k (prepared a.sample_rate n)) (omega arith) in
    fill-three (2 * n) (4 * n) front back c.fill.new.table (drop (2 * n) a.block.now) front_length (omega (arith, length-append front back))
    ∙ joined a.sample_rate w a.smooth.now front back c.fill.new.table a.overlap one.ensures two.ensures table
