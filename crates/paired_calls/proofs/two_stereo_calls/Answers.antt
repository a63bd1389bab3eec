-- `two_stereo_calls` meets its contract: the masks are those of the two calls, and the chord law
-- holds of them. Assumes nothing.
use lib.ListN.{length}
use Rattle.chord_law.specs.Calls.{F32Call, call_of}
use Rattle.refusals.proofs.Parameters.{voices-f32, settings-f32}
use Rattle.chord_law.proofs.TwoCalls.{law-holds}
use Rattle.paired_calls.proofs.two_stereo_calls.Goals as goal

pub returns : goal.returns
returns c =
    let g = c.well_formed in
    let p = c.args in
    let a =
    call_of (length p.a_left.now) (length p.a_right.now) p.a_curve.now p.a_voices
    p.a_count p.a_config p.a_table.now in
    let b =
    call_of (length p.b_left.now) (length p.b_right.now) p.b_curve.now p.b_voices
    p.b_count p.b_config p.b_table.now in
    let a-numbers : F32Call a =
    record {
      curve-f32 = λ i l. c.shared_slice_known-1.given i;
      voices-f32 = voices-f32 128 p.a_voices _ g.1.1.1.0;
      settings-f32 = settings-f32 p.a_config _ g.1.1.1.1.1.0;
      table-f32 = λ i l. c.shared_slice_known-2-1.given i;
    } in
    let b-numbers : F32Call b =
    record {
      curve-f32 = λ i l. c.shared_slice_known-3-1.given i;
      voices-f32 = voices-f32 128 p.b_voices _ g.1.1.1.1.1.1.1.1.1.1.0;
      settings-f32 = settings-f32 p.b_config _ g.1.1.1.1.1.1.1.1.1.1.1.1.0;
      table-f32 = λ i l. c.shared_slice_known-4-1.given i;
    } in
    let x = c.build_stereo_masks_with_voices_precomputed-a.ensures in
    let y = c.build_stereo_masks_with_voices_precomputed-b.ensures in record {
      a_value = x.result_value;
      b_value = y.result_value;
      law_holds = law-holds a b a-numbers b-numbers
          (record {
            left-before = p.a_left.now;
            right-before = p.a_right.now;
            answer = x.result_value;
            left_after = x.left_after;
            right-after = x.right_after;
          })
          (record {
            left-before = p.b_left.now;
            right-before = p.b_right.now;
            answer = y.result_value;
            left_after = y.left_after;
            right-after = y.right_after;
          });
    }
