-- `put_floats` meets its contract: the floats passed stand one after the other. Assumes nothing.
use mathlib.Core.Path.{◌≡◌, refl, ap, ◌∙◌}
use native.Mathlib.Omega.{arith}
use lib.Ieee.{nan}
use lib.ListN.{length}
use lib.Seq.{take_all}
use borrow.Author.Rules.{rules}
use Rattle.record_words.specs.Floats.{float_bytes, floats_bytes}
use Rattle.lists.specs.Stores.{stored, stored-length, stored-none}
use Rattle.lists.specs.Pieces.{pieces, pieces_more}
use Rattle.record_words.proofs.FloatLists.{float-length}
use Rattle.record_words.proofs.put_floats.Goals as goal

pub loop-i-init : goal.loop-i-init
unfolding pieces
loop-i-init c = (refl, stored-none _ _)

pub overflow_mul-i : goal.overflow_mul-i
overflow_mul-i c = omega arith

pub overflow_add-at : goal.overflow_add-at
overflow_add-at c = omega arith

pub offset_bounds-floats-i : goal.offset_bounds-floats-i
offset_bounds-floats-i c = omega arith

pub bounds-floats-i : goal.bounds-floats-i
bounds-floats-i c = omega arith

pub put_float-requires : goal.put_float-requires
put_float-requires c = omega arith

pub loop-i-preserved : goal.loop-i-preserved
loop-i-preserved c = let a = c.args in
    let l : length a.floats ≡ 7 = search rules in
    let e = c.put_float.ensures in (
      ap length e ∙ stored-length _ _ _ ∙ c.loop-i.invariant.0,
      e
          ∙ pieces_more float_bytes 4 float-length nan a.bytes.now c.loop-i.bytes a.at
          c.loop-i.i a.floats (omega arith) c.loop-i.invariant.1,
    )

pub shape_of-bytes : goal.shape_of-bytes
shape_of-bytes c = c.loop-i.invariant.0

pub returns : goal.returns
returns c = let a = c.args in
    let l : length a.floats ≡ 7 = search rules in
    c.loop-i.invariant.1
    ∙ ap (λ xs. stored a.bytes.now a.at (floats_bytes xs))
    (take_all c.loop-i.i a.floats (omega arith))
