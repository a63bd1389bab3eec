-- `build_stereo_masks_with_prepared_spectrum` lends the part of the block that stands after the
-- four windows. Assumes nothing.
use mathlib.Core.Path.{◌≡◌, sym, ap, ◌∙◌}
use mathlib.Core.List.{List}
use Prim.Native.Nat.{ℕ, ◌-◌, ◌*◌, ◌<◌, min}
use native.Mathlib.Decide.{dec_lt}
use native.Mathlib.Omega.{arith}
use lib.Ieee.{Float}
use lib.ListN.{length, take, drop, drop_of_length-le}
use Rattle.lists.specs.Parts.{part-tail}
use Rattle.mask_calls.proofs.build_stereo_masks_with_prepared_spectrum.Goals as goal

-- where the block is too short for four windows nothing stands after them
from : (n : ℕ) (block : List Float) → Dec (length block < 4 * n) → drop (min (4 * n) (length block)) block ≡ drop (4 * n) block
from n block (yes h) =
    let e : min (4 * n) (length block) ≡ length block = omega arith in
    ap (λ (k : ℕ). drop k block) e ∙ drop_of_length-le block {i = length block} (omega arith) ∙ sym (drop_of_length-le block {i = 4 * n} (omega arith))
from n block (no h) = let e : min (4 * n) (length block) ≡ 4 * n = omega arith in ap (λ (k : ℕ). drop k block) e

lent-part : (n start : ℕ) (block : List Float) → start ≡ min (4 * n) (length block) → take (length block - start) (drop start block) ≡ drop (4 * n) block
lent-part n start block e = part-tail start block ∙ ap (λ (k : ℕ). drop k block) e ∙ from n block (dec_lt (length block) (4 * n))

pub returns : goal.returns
returns c =
    let a = c.args in
    rw (← lent-part a.config.fft_size c.table_start-start.result a.block.now c.table_start-start.ensures) c.build_stereo_masks_with_voices_precomputed.ensures
