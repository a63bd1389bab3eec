-- `values_by_step` replaces the first `count` entries: each entry below k is the curve value at its
-- product. Assumes nothing.
use mathlib.Core.Logic.{inl}
use Prim.Native.Nat.{◌+◌, ◌*◌, ◌-◌, ◌≤◌}
use native.Mathlib.Nat.{mul-le-mul}
use native.Mathlib.Omega.{arith}
use lib.Ieee.{nan}
use Rattle.lists.specs.Turned.{turned_none, turned_more, turned-to}
use mathlib.Core.Path.{ap}
use lib.ListN.{get_or}
use Rattle.limits.specs.Lengths.{last_point}
use Rattle.masks.proofs.rows.values_by_step.Goals as goal

pub loop-k-init : goal.loop-k-init
loop-k-init c = (turned_none _ _ _, omega arith)

pub overflow_mul-start : goal.overflow_mul-start
overflow_mul-start c =
    let q : (c.args.start + c.loop-k.k) * c.args.step ≤ 16777216 * last_point = mul-le-mul {n₂ = 16777216} (omega arith) c.requires.1 in
    omega arith

pub loop-k-preserved : goal.loop-k-preserved
loop-k-preserved c =
    let curve = c.args.curve.now in
    (turned_more nan c.loop-k.invariant.0 (omega arith) (ap (λ i. get_or curve i nan) c.min.ensures), omega arith)

pub shape_of-row : goal.shape_of-row
shape_of-row c = c.loop-k.invariant.0.len

pub returns : goal.returns
returns c = turned-to _ c.loop-k.invariant.0 (inl c.loop-k.invariant.1) (omega arith)
