-- `write` gives what the open call answers for a shape of 0..7, otherwise refusal 1 or 2. Assumes
-- nothing.
use Rattle.std.proofs.Common.{◌≤◌, refl, ap, ◌∙◌, arith}
use Rattle.answer.specs.Reply.{of_outcome}
use Rattle.answer.specs.Written.{written}
use Rattle.scene.specs.declared.Scene.{Scene}
use Rattle.record_calls.specs.Records.{record_of, write_reply}
use Rattle.crossing.proofs.Configs.{known, known-left, unknown, unknown-left}
use Rattle.crossing.proofs.Replies.{given}
use Rattle.crossing_scenes.specs.Scenes.{scene_of}
use Rattle.crossing_scenes.proofs.write.Goals as goal

pub returns-in-Ok : goal.returns-in-Ok
returns-in-Ok c =
    let a = c.args in
    let old = a.«record».now in
    let read = c.in-Ok.ensures in
    let shape : a.plain.settings.motion_shape ≤ 7 = omega (arith, read.0) in
    let answer = c.write_scene-outcome.ensures in
    let reply = answer.result_value ∙ ap (write_reply _) read.1 in
    record {
      given = given (known _ _ _ refl reply shape) c.give_outcome.ensures;
      record_after = known-left _ _ _ refl (λ config. record_of (scene_of a.plain)) _ reply shape
          (answer.record_after
          ∙ ap (λ (s : Scene). written (of_outcome c.write_scene-outcome.result) (record_of s) old)
          read.1);
    }

pub returns-in-Err : goal.returns-in-Err
returns-in-Err c =
    let refused = c.in-Err.ensures in
    record {
      given = given (unknown _ _ _ refl refused.1 refused.0) c.give_outcome-in-Err.ensures;
      record_after = unknown-left _ _ _ _ refused.0;
    }
