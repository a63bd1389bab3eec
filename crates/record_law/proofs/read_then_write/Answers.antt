-- `read_then_write` meets its contract. Assumes nothing.
use Rattle.lists.specs.Bytes.{Byte}
use Rattle.lists.specs.Entries.{all-places}
use Rattle.record_law.proofs.TwoCalls.{written-as-read}
use Rattle.record_law.proofs.read_then_write.Goals as goal

pub returns-in-Ok-clause-written_as_read : goal.returns-in-Ok-clause-written_as_read
returns-in-Ok-clause-written_as_read c =
    let bytes = c.args.«record».now in
    let x = c.in-Ok.ensures in
    let y = c.write_scene.ensures in
    let small = all-places Byte 0 bytes (λ i l. (c.type_inv.«record» i).fits) in
    λ l. written-as-read bytes c.args.copy.now _ _ small x.outcome_value x.scene_value y.result_value y.record_after l
