-- `prepare_and_build` meets its contract: the masks are those of the stereo call on the block that
-- `new` leaves, and the law holds of them. Assumes nothing.
use mathlib.Core.Path.{sym, subst}
use lib.Dec.{T}
use Rattle.prepared_law.specs.Calls.{new_of, stereo_of}
use Rattle.prepared_law.proofs.TwoCalls.{block-left, built-by-block}
use Rattle.paired_calls.proofs.prepare_and_build.Goals as goal

pub returns : goal.returns
returns c =
    let p = c.args in
    let x = c.new-prepared.ensures in
    let y = c.build_stereo_masks_with_prepared_spectrum-masks.ensures in
    let new =
    new_of p.sample_rate p.window.now p.smooth.now p.overlap p.block.now in
    let call =
    stereo_of p.left.now p.right.now p.curve.now p.voices p.count p.config in
    let f32 = subst T (sym c.well_formed.0.1) tt in
    record { prepared_value = x.result_value; built_by_block = built-by-block new call f32 (block-left new x.result_value x.block_after) y.result_value y.left_after y.right_after }
