-- `write_then_read` meets its contract. Assumes nothing.
use lib.ListN.{length}
use Rattle.refusals.proofs.Parameters.{scene-f32}
use Rattle.record_law.proofs.TwoCalls.{comes_back}
use Rattle.record_law.proofs.write_then_read.Goals as goal

pub returns : goal.returns
returns c =
    let a = c.args in
    let x = c.write_scene-written.ensures in
    let y = c.read_scene.ensures in
    let f = scene-f32 a.scene _ c.well_formed.1.0 in record {
      written_value = x.result_value;
      comes_back = comes_back a.scene _ (length a.«record».now) a.«record».now _
          (record { settings-f32 = f.0; voices-f32 = f.1 }) x.result_value x.record_after y.outcome_value y.scene_value;
    }
