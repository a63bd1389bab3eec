-- `read` gives what the open call answers for a shape of 0..7, otherwise refusal 1 or 2. Assumes
-- nothing.
use mathlib.Core.Path.{refl}
use mathlib.Core.List.{List}
use Prim.Native.Nat.{◌≤◌}
use native.Mathlib.Omega.{arith}
use lib.Ieee.{Float}
use Rattle.scene.specs.declared.MaskConfig.{MaskConfig}
use Rattle.lobes.specs.Pan.{Side, left, right}
use Rattle.bank_masks.specs.Reading.{read_mask}
use Rattle.crossing.proofs.Configs.{known, known-left, unknown, unknown-left}
use Rattle.crossing.proofs.Replies.{given}
use Rattle.crossing_banks.proofs.read.Goals as goal

pub returns-in-Ok : goal.returns-in-Ok
returns-in-Ok c =
    let a = c.args in
    let read = c.in-Ok.ensures in
    let e = read.1 in
    let shape : a.settings.motion_shape ≤ 7 = omega (arith, read.0) in
    let answer = c.read_masks-outcome.ensures in
    let mask : Side → MaskConfig → List Float =
    λ side config. read_mask side a.manual_mask_db.now a.bank config a.table.now in record {
      given = given (known _ _ _ e answer.result_value shape) c.give_outcome.ensures;
      left_after = known-left _ _ _ e (mask left) _ answer.result_value shape answer.left_after;
      right_after = known-left _ _ _ e (mask right) _ answer.result_value shape answer.right_after;
    }

pub returns-in-Err : goal.returns-in-Err
returns-in-Err c =
    let refused = c.in-Err.ensures in record {
      given = given (unknown _ _ _ refl refused.1 refused.0) c.give_outcome-in-Err.ensures;
      left_after = unknown-left _ _ _ _ refused.0;
      right_after = unknown-left _ _ _ _ refused.0;
    }
