-- `open_below` replaces the first `count` entries: each entry below k is open if its frequency is
-- below the lowest shown. Assumes nothing.
use mathlib.Core.Logic.{inl}
use native.Mathlib.Omega.{arith}
use lib.Ieee.{nan}
use Rattle.lists.specs.Turned.{turned_none, turned-to}
use Rattle.lists.specs.Stages.{turned-held}
use Rattle.float32.proofs.Sums.{in-float}
use borrow.Author.Rules.{rules}
use Rattle.motion_rows.proofs.open_below.Goals as goal

pub loop-k-init : goal.loop-k-init
loop-k-init c = (turned_none _ _ _, omega arith)

pub int_to_float-start : goal.int_to_float-start
int_to_float-start c = in-float _ (search rules)

pub loop-k-preserved : goal.loop-k-preserved
loop-k-preserved c = (turned-held nan c.loop-k.invariant.0 (omega arith) c.shown.ensures, omega arith)

pub shape_of-row : goal.shape_of-row
shape_of-row c = c.loop-k.invariant.0.len

pub returns : goal.returns
returns c = turned-to _ c.loop-k.invariant.0 (inl c.loop-k.invariant.1) (omega arith)
