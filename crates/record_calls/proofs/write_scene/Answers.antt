-- `write_scene` answers as its tests say, leaves the record as it was where it refuses, and writes
-- head and voices where it is done. Assumes nothing.
use Rattle.std.proofs.Common.{length, nat_eq, sym, ap, ◌∙◌, arith}
use Rattle.answer.proofs.Tests.{passed-on}
use Rattle.limits.specs.Lengths.{record_length}
use Rattle.lists.specs.Stores.{stored-length}
use Rattle.refusals.proofs.MaskAccepted.{is-done}
use Rattle.record_calls.proofs.Writing.{write-answer, few, whole, all-counted, fields_fit}
use Rattle.record_calls.proofs.Writing.{notes-fit, record-stored}
use Rattle.record_calls.proofs.write_scene.Goals as goal

pub returns-in_err-of_scene-clause-result_value :
    goal.returns-in_err-of_scene-clause-result_value
returns-in_err-of_scene-clause-result_value c =
    let n = length c.args.«record».now in
    let long = ap (nat_eq n) (c.record_length-length.ensures ∙ ap record_length c.held.ensures) in
    passed-on _ _ c.from_residual.ensures.1 ∙ c.in_err-of_scene.ensures ∙ write-answer c.args.scene n long

pub put_head-requires : goal.put_head-requires
put_head-requires c =
    let a = c.args in
    let n = length a.«record».now in
    let long = ap (nat_eq n) (c.record_length-length.ensures ∙ ap record_length c.held.ensures) in
    let d = is-done _ (sym (c.in_ok-of_scene.ensures ∙ write-answer a.scene n long)) in
    record { in_bounds = omega (arith, whole a.scene n d); fields_fit = fields_fit a.scene n d }

pub put_voices-requires : goal.put_voices-requires
put_voices-requires c =
    let a = c.args in
    let n = length a.«record».now in
    let long = ap (nat_eq n) (c.record_length-length.ensures ∙ ap record_length c.held.ensures) in
    let d = is-done _ (sym (c.in_ok-of_scene.ensures ∙ write-answer a.scene n long)) in
    let same = ap length c.put_head.ensures ∙ stored-length a.«record».now 0 _ in
    record {
      count_bound = few a.scene n d;
      count_in_bounds = omega (arith, same, whole a.scene n d);
      all = notes-fit a.scene n d;
    }

pub returns : goal.returns
returns c =
    let a = c.args in
    let n = length a.«record».now in
    let long = ap (nat_eq n) (c.record_length-length.ensures ∙ ap record_length c.held.ensures) in
    let e = c.in_ok-of_scene.ensures ∙ write-answer a.scene n long in
    let d = is-done _ (sym e) in
    record {
      result_value = e;
      record_after = c.put_voices.ensures
          ∙ record-stored a.scene n a.«record».now _ (whole a.scene n d)
          (all-counted a.scene n d) c.put_head.ensures;
    }
