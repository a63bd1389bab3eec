-- `take_logs` replaces the entries from `start` on: each entry below i is its logarithm. Assumes
-- nothing.
use mathlib.Core.Path.{◌≡◌, sym, ap, subst, ◌∙◌}
use mathlib.Core.Logic.{inl}
use Prim.Native.Nat.{ℕ, ◌+◌, ◌-◌}
use native.Mathlib.Omega.{arith}
use lib.ListN.{get_or}
use lib.Ieee.{Float, nan}
use Rattle.lists.specs.Turned.{turned_none, turned-read, turned-to}
use Rattle.lists.specs.Stages.{turned-held}
use Rattle.power_rows.specs.Log2.{Found}
use Rattle.power_rows.proofs.log2.take_logs.Goals as goal

pub loop-i-init : goal.loop-i-init
loop-i-init c = (turned_none _ _ _, omega arith)

pub log_in_step-requires : goal.log_in_step-requires
log_in_step-requires c =
    let low = c.loop-i.invariant.0.low in
    let k = c.loop-i.i - c.args.start in
    let z : c.args.start + k ≡ c.loop-i.i = omega arith in
    let f =
    subst (λ (v : Float). Found v (get_or c.args.digits.now k 0) (get_or c.args.steps.now k 0) (get_or c.args.from.now k 0) (get_or c.args.to.now k 0))
    (ap (λ (n : ℕ). get_or c.args.row.now n nan) z ∙ sym (turned-read nan c.loop-i.invariant.0 (omega (arith, c.requires.0))))
    (c.requires.2 k (omega arith)) in
    (f.normal, f.digits, f.ends)

pub loop-i-preserved : goal.loop-i-preserved
loop-i-preserved c = (turned-held nan c.loop-i.invariant.0 (omega arith) c.log_in_step.ensures, omega arith)

pub shape_of-row : goal.shape_of-row
shape_of-row c = c.loop-i.invariant.0.len

pub returns : goal.returns
returns c = turned-to _ c.loop-i.invariant.0 (inl c.loop-i.invariant.1) (omega arith)
