-- `motion_compensation::mean_square` meets its contract. The loop's invariant: the run over the
-- samples that are left, from the sum so far, is the whole run. The measure is the number of
-- samples left. That the whole run is the definition's is said in proofs/Samples.antt. Assumes
-- nothing.
use mathlib.Core.Path.{refl, sym, ap, ◌∙◌}
use Prim.Native.Nat.{◌≤◌, ◌<◌, ◌-◌}
use native.Mathlib.Omega.{arith}
use lib.IntN.{pos}
use lib.Ieee.{binary32, div, of_int}
use Rattle.lists.specs.Folds.{range-next, range_none, fold_step, fold_end}
use Rattle.float32.specs.Remainder.{zero}
use Rattle.float32.proofs.Sums.{in-float}
use Rattle.motion_compensation.specs.Compensation.{motion_compensation_samples, mean_square}
use Rattle.motion_compensation.proofs.Samples.{sum_is}
use Rattle.motion_compensation.proofs.mean_square.Goals as goal

pub loop-index-init : goal.loop-index-init
loop-index-init c = (omega arith, refl)

pub loop-index-preserved : goal.loop-index-preserved
loop-index-preserved c =
    let l = c.loop-index in
    let h : l.index < motion_compensation_samples = omega arith in
    (omega arith, simp c.powi2-sum.ensures (sym (fold_step _ l.sum (range-next l.index motion_compensation_samples h)) ∙ l.invariant.1))

pub int_to_float-result : goal.int_to_float-result
int_to_float-result c = in-float _ (omega arith)

pub returns : goal.returns
unfolding mean_square
returns c =
    let l = c.loop-index in
    let h : motion_compensation_samples ≤ l.index = omega arith in
    let e = rw (c.settled.ensures, c.octave_table-row.ensures) at c.sample_gains.ensures in
    ap (λ s. div binary32 s (of_int binary32 (pos motion_compensation_samples)))
    (sym (fold_end _ l.sum (range_none l.index motion_compensation_samples h)) ∙ l.invariant.1
    ∙ sum_is c.args.config c.requires _ e 0 motion_compensation_samples zero (omega arith))
