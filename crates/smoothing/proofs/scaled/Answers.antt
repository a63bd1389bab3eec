-- `scaled` replaces the first `count` entries: each logarithm below k is in decibels.
-- Assumes nothing.
use mathlib.Core.Logic.{inl}
use native.Mathlib.Omega.{arith}
use lib.Ieee.{nan}
use Rattle.lists.specs.Turned.{turned_none, turned-to}
use Rattle.lists.specs.Stages.{turned-held}
use mathlib.Core.Path.{refl}
use Rattle.smoothing.proofs.scaled.Goals as goal

pub loop-k-init : goal.loop-k-init
loop-k-init c = (turned_none _ _ _, omega arith)

pub loop-k-preserved : goal.loop-k-preserved
loop-k-preserved c = (turned-held nan c.loop-k.invariant.0 (omega arith) refl, omega arith)

pub shape_of-row : goal.shape_of-row
shape_of-row c = c.loop-k.invariant.0.len

pub returns : goal.returns
returns c = turned-to _ c.loop-k.invariant.0 (inl c.loop-k.invariant.1) (omega arith)
