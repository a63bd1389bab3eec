-- `floats_at` meets its contract: each entry passed is the float of its place. Assumes nothing.
use mathlib.Core.Path.{refl, ap, ◌∙◌}
use Prim.Native.Nat.{◌+◌, ◌*◌}
use native.Mathlib.Omega.{arith}
use lib.Ieee.{nan}
use Rattle.lists.specs.Maps.{tabulate}
use Rattle.lists.specs.Turned.{turned_none, turned_more, turned-fill}
use Rattle.record_words.specs.Floats.{float_at}
use Rattle.record_words.proofs.FloatLists.{floats-tab}
use Rattle.record_words.proofs.floats_at.Goals as goal

pub loop-i-init : goal.loop-i-init
loop-i-init c = (refl, turned_none _ _ _)

pub overflow_mul-i : goal.overflow_mul-i
overflow_mul-i c = omega arith

pub overflow_add-at : goal.overflow_add-at
overflow_add-at c = omega arith

pub float_at-requires : goal.float_at-requires
float_at-requires c = omega arith

pub offset_bounds-floats-i : goal.offset_bounds-floats-i
offset_bounds-floats-i c = omega arith

pub loop-i-preserved : goal.loop-i-preserved
loop-i-preserved c = (
  c.loop-i.invariant.0,
  turned_more nan c.loop-i.invariant.1 (omega arith) c.float_at.ensures,
)

pub returns : goal.returns
returns c = let a = c.args in
    turned-fill c.loop-i.invariant.1 (omega arith)
    ∙ ap (λ n. tabulate n (λ k. float_at a.bytes.now (a.at + 4 * k))) c.loop-i.invariant.0
    ∙ floats-tab a.bytes.now a.at 7
