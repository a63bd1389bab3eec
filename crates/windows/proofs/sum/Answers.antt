-- `sum` is the fold from 0: the sum so far, run on over the values that are left, is the whole sum.
-- Assumes nothing.
use mathlib.Core.Path.{refl, sym, ap, ◌∙◌}
use mathlib.Core.List.{◌∷◌}
use Prim.Native.Nat.{ℕ}
use native.Mathlib.Numerals.{add-one}
use native.Mathlib.Omega.{arith}
use lib.ListN.{get_or, drop, drop_of_length-le}
use lib.Seq.{drop-cons}
use lib.Ieee.{nan, binary32, add, of_bits, of_fields}
use Rattle.lists.specs.Folds.{fold_step, fold_end}
use Rattle.windows.proofs.sum.Goals as goal

pub loop-value-init : goal.loop-value-init
unfolding of_bits of_fields
loop-value-init c = refl

pub loop-value-preserved : goal.loop-value-preserved
loop-value-preserved c =
    let l = c.loop-value in
    let w = c.args.window.now in
    sym (fold_step (λ s x. add binary32 s x) l.total (drop-cons w l.value-index nan (omega arith) ∙ ap (λ (i : ℕ). get_or w l.value-index nan ∷ drop i w) (sym (add-one l.value-index)))) ∙ l.invariant

pub returns : goal.returns
returns c =
    let l = c.loop-value in
    sym (fold_end (λ s x. add binary32 s x) l.total (drop_of_length-le c.args.window.now {i = l.value-index} (omega arith))) ∙ l.invariant
