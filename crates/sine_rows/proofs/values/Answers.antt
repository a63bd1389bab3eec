-- `values` replaces the first `count` indexes: each entry below k is the value that `value_at`
-- ensures of its step. Assumes nothing.
use mathlib.Core.Path.{sym, subst}
use mathlib.Core.Logic.{inl}
use Prim.Native.Nat.{ℕ, ◌<◌}
use native.Mathlib.Omega.{arith}
use Rattle.lists.specs.Turned.{turned_none, turned-read, turned-to}
use Rattle.lists.specs.Stages.{turned-held}
use Rattle.sine_rows.proofs.values.Goals as goal

pub loop-k-init : goal.loop-k-init
loop-k-init c = (turned_none _ _ _, omega arith)

pub value_at-requires : goal.value_at-requires
value_at-requires c = (
  subst (λ (z : ℕ). z < 256) (sym (turned-read 0 c.loop-k.invariant.0 (omega (arith, c.requires.0)))) (c.requires.2 c.loop-k.k c.loop-k-test.true),
  c.requires.3 c.loop-k.k c.loop-k-test.true,
)

pub loop-k-preserved : goal.loop-k-preserved
loop-k-preserved c = (turned-held 0 c.loop-k.invariant.0 (omega arith) c.value_at.ensures, omega arith)

pub shape_of-indexes : goal.shape_of-indexes
shape_of-indexes c = c.loop-k.invariant.0.len

pub returns : goal.returns
returns c = turned-to _ c.loop-k.invariant.0 (inl c.loop-k.invariant.1) (omega arith)
