-- `read_two` meets its contract. Assumes nothing.
use Rattle.lists.specs.Bytes.{Byte}
use Rattle.lists.specs.Entries.{all-places}
use Rattle.record_law.proofs.TwoCalls.{one-record}
use Rattle.record_law.proofs.read_two.Goals as goal

pub returns : goal.returns
returns c =
    let p = c.args in
    let x = c.read_scene.ensures in
    let y = c.read_scene-2.ensures in
    let small-a = all-places Byte 0 p.a.now (λ i l. (c.type_inv.a i).fits) in
    let small_b = all-places Byte 0 p.b.now (λ i l. (c.type_inv.b i).fits) in record {
      a_value = x.outcome_value;
      b_value = y.outcome_value;
      one_record = one-record p.a.now p.b.now _ _ small-a small_b x.outcome_value x.scene_value y.outcome_value y.scene_value;
    }
