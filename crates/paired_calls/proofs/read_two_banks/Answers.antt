-- `read_two_banks` meets its contract: the slices hold what the two reads leave, and the promise is
-- of that. Assumes nothing.
use Rattle.refusals.proofs.Parameters.{settings-f32}
use Rattle.bank_law.specs.Calls.{reading_of}
use Rattle.bank_law.specs.Promises.{F32Reading}
use Rattle.bank_law.proofs.Parameters.{bank-f32}
use Rattle.bank_law.proofs.TwoReads.{banks-not-audible}
use Rattle.paired_calls.proofs.read_two_banks.Goals as goal

pub returns : goal.returns
returns c =
    let g = c.well_formed in
    let p = c.args in
    let a =
    reading_of p.a_left.now p.a_right.now p.curve.now p.config p.table.now in
    let b =
    reading_of p.b_left.now p.b_right.now p.curve.now p.config p.table.now in
    let numbers : F32Reading a =
    record {
      curve-f32 = λ i l. c.shared_slice_known-1.given i;
      settings-f32 = settings-f32 p.config _ g.1.1.1.1.1.1.1.0;
      table-f32 = λ i l. c.shared_slice_known-2-1.given i;
    } in
    let x = c.read_masks-a.ensures in
    let y = c.read_masks-b.ensures in record {
      a_value = x.result_value;
      b_value = y.result_value;
      banks_not_audible = banks-not-audible p.a_bank p.b_bank a b _ _
          (bank-f32 p.a_bank _ g.1.1.0) (bank-f32 p.b_bank _ g.1.1.1.1.1.0)
          numbers
          (record { reply = x.result_value; left_after = x.left_after; right-after = x.right_after })
          (record { reply = y.result_value; left_after = y.left_after; right-after = y.right_after });
    }
