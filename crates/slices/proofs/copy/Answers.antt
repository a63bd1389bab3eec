-- `copy` leaves the source in the output: each entry below the index is the source's, and at the
-- end that is all of them. Assumes nothing.
use mathlib.Core.Path.{refl, sym, ap, ◌∙◌}
use Prim.Native.Nat.{ℕ}
use native.Mathlib.Omega.{arith}
use lib.ListN.{get_or}
use lib.Ieee.{nan}
use Rattle.lists.specs.Maps.{tabulate, tabulate-self}
use Rattle.lists.specs.Turned.{turned_none, turned_more, turned-fill}
use Rattle.slices.proofs.copy.Goals as goal

pub loop-index-init : goal.loop-index-init
loop-index-init c = turned_none _ _ _

pub bounds-source-index : goal.bounds-source-index
bounds-source-index c = omega arith

pub loop-index-preserved : goal.loop-index-preserved
loop-index-preserved c = turned_more nan c.loop-index.invariant (omega arith) refl

pub shape_of-output : goal.shape_of-output
shape_of-output c = c.loop-index.invariant.len

pub returns : goal.returns
returns c =
    let s = c.args.source.now in
    turned-fill c.loop-index.invariant (omega arith) ∙ ap (λ (n : ℕ). tabulate n (λ k. get_or s k nan)) (sym c.requires) ∙ sym (tabulate-self nan s)
