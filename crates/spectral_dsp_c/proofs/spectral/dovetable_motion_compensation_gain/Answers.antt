-- `spectral_dsp_c::spectral::dovetable_motion_compensation_gain` gives what the open call answers
-- for a shape of 0..7, otherwise refusal 2. Assumes nothing.
use Rattle.std.proofs.Common.{◌≤◌, ◌<◌, sym, ap, ◌∙◌, arith}
use Rattle.motion_calls.specs.Motion.{compensation_reply}
use Rattle.crossing.proofs.Replies.{given-value}
use Rattle.crossing.proofs.Shapes.{with-known, with-unknown}
use Rattle.spectral_dsp_c.proofs.spectral.dovetable_motion_compensation_gain.Goals as goal

pub returns-in-Ok : goal.returns-in-Ok
returns-in-Ok c =
    let read = c.in-Ok.ensures in
    let few : c.args.shape ≤ 7 = omega (arith, read.0) in
    given-value (c.motion_compensation_gain.ensures ∙ ap (λ motion. compensation_reply motion) read.1 ∙ sym (with-known _ _ few)) c.give_answer.ensures

pub returns-in-Err : goal.returns-in-Err
returns-in-Err c =
    let many : 7 < c.args.shape = omega (arith, c.in-Err.ensures) in
    given-value (sym (with-unknown _ _ many)) c.give_answer-in-Err.ensures
