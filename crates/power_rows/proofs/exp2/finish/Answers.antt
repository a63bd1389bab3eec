-- `finish` replaces `count` numbers from `start` on: each entry below i is the power that
-- `power_of` ensures. Assumes nothing.
use mathlib.Core.Path.{◌≡◌, sym, ap, subst, ◌∙◌}
use mathlib.Core.Logic.{inl}
use Prim.Native.Nat.{ℕ, ◌+◌, ◌-◌}
use native.Mathlib.Omega.{arith}
use lib.ListN.{get_or}
use lib.Ieee.{Float, nan}
use Rattle.lists.specs.Turned.{turned_none, turned-read, turned-to}
use Rattle.lists.specs.Stages.{turned-held}
use Rattle.power_rows.specs.Exp2.{Found}
use Rattle.power_rows.proofs.exp2.finish.Goals as goal

pub loop-i-init : goal.loop-i-init
loop-i-init c = (turned_none _ _ _, omega arith)

pub power_of-requires : goal.power_of-requires
power_of-requires c =
    let low = c.loop-i.invariant.0.low in
    let k = c.loop-i.i - c.args.start in
    let z : c.args.start + k ≡ c.loop-i.i = omega arith in
    subst (λ (x : Float). Found x (get_or c.args.found.now k 0) (get_or c.args.values.now k 0))
    (ap (λ (n : ℕ). get_or c.args.row.now n nan) z ∙ sym (turned-read nan c.loop-i.invariant.0 (omega (arith, c.requires.0))))
    (c.requires.3 k (omega arith))

pub loop-i-preserved : goal.loop-i-preserved
loop-i-preserved c = (turned-held nan c.loop-i.invariant.0 (omega arith) c.power_of.ensures, omega arith)

pub shape_of-row : goal.shape_of-row
shape_of-row c = c.loop-i.invariant.0.len

pub returns : goal.returns
returns c = turned-to _ c.loop-i.invariant.0 (inl c.loop-i.invariant.1) (omega arith)
