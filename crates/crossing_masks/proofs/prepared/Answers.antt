-- `crossing_masks::prepared` gives what the open call answers for a shape of 0..7,
-- otherwise refusal 1 or 2. Assumes nothing.
use mathlib.Core.Path.{refl}
use mathlib.Core.List.{List}
use native.Mathlib.Omega.{arith}
use Prim.Native.Nat.{◌≤◌}
use Prim.Native.Nat.{◌*◌}
use lib.Ieee.{Float}
use lib.ListN.{take, drop}
use Rattle.scene.specs.declared.MaskConfig.{MaskConfig}
use Rattle.lobes.specs.Distance.{lent}
use Rattle.lobes.specs.Pan as side
use Rattle.mask_builder.specs.Mask.{mask_of}
use Rattle.crossing.proofs.Configs.{known, known-left, unknown, unknown-left}
use Rattle.crossing.proofs.Replies.{given}
use Rattle.crossing_masks.proofs.prepared.Goals as goal

pub returns-in-Ok : goal.returns-in-Ok
returns-in-Ok c =
    let args = c.args in
    let read = c.in-Ok.ensures in
    let e = read.1 in
    let known-shape : args.settings.motion_shape ≤ 7 = omega (arith, read.0) in
    let answer = c.build_stereo_masks_with_prepared_spectrum-outcome.ensures in
    let left-mask : MaskConfig → List Float = λ k. mask_of args.manual_mask_db.now k (lent (drop (4 * k.fft_size) args.block.now)) side.left (take args.count args.voices) in
    let right-mask : MaskConfig → List Float = λ k. mask_of args.manual_mask_db.now k (lent (drop (4 * k.fft_size) args.block.now)) side.right (take args.count args.voices) in
    record { given = given (known _ _ _ e answer.result_value known-shape) c.give_outcome.ensures; left_after = known-left _ _ _ e left-mask _ answer.result_value known-shape answer.left_after; right_after = known-left _ _ _ e right-mask _ answer.result_value known-shape answer.right_after }

pub returns-in-Err : goal.returns-in-Err
returns-in-Err c =
    let refused = c.in-Err.ensures in
    record { given = given (unknown _ _ _ refl refused.1 refused.0) c.give_outcome-in-Err.ensures; left_after = unknown-left _ _ _ _ refused.0; right_after = unknown-left _ _ _ _ refused.0 }
