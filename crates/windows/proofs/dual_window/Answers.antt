-- `dual_window` writes the dual at every index: each entry below the index is done, and the others
-- are as they were. Assumes nothing.
use mathlib.Core.Path.{sym, ap, ◌∙◌}
use Prim.Native.Nat.{ℕ, ◌/◌}
use native.Mathlib.Nat.{div-le_self}
use native.Mathlib.Omega.{arith}
use lib.ListN.{length, get_or}
use lib.Ieee.{Float, nan, binary32, div}
use Rattle.lists.specs.Maps.{tabulate}
use Rattle.lists.specs.Turned.{turned_none, turned_more, turned-fill}
use Rattle.float_laws.specs.Classes.{dual_at}
use Rattle.windows.proofs.dual_window.Goals as goal

pub nonzero_div-hop : goal.nonzero_div-hop
nonzero_div-hop c = omega arith

pub loop-index-init : goal.loop-index-init
loop-index-init c = turned_none _ _ _

pub bounds-analysis-index : goal.bounds-analysis-index
bounds-analysis-index c = omega arith

pub denominator-requires : goal.denominator-requires
denominator-requires c =
    let a = c.args in
    (omega arith, div-le_self (length a.analysis.now) a.overlap)

pub loop-index-preserved : goal.loop-index-preserved
loop-index-preserved c =
    let l = c.loop-index in
    let w = c.args.analysis.now in
    turned_more nan l.invariant (omega arith) (ap (λ (d : Float). div binary32 (get_or w l.index nan) d) c.denominator.ensures)

pub shape_of-synthesis : goal.shape_of-synthesis
shape_of-synthesis c = c.loop-index.invariant.len

pub returns : goal.returns
returns c =
    let a = c.args in
    let w = a.analysis.now in
    turned-fill c.loop-index.invariant (omega arith) ∙ ap (λ (n : ℕ). tabulate n (dual_at w (length w / a.overlap) a.overlap)) (sym c.requires.0)
