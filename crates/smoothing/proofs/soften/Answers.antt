-- `soften` keeps the copy where there are fewer than three bins, which have no inside, otherwise it
-- softens the inside of the copy. Assumes nothing.
use mathlib.Core.Path.{refl, ap, ◌∙◌}
use mathlib.Core.Logic.{inr}
use mathlib.Core.List.{List}
use Prim.Native.Nat.{◌-◌}
use native.Mathlib.Omega.{arith}
use lib.ListN.{length}
use lib.Ieee.{Float}
use Rattle.lists.specs.Maps.{map_range}
use Rattle.lists.specs.Turned.{turned_none, turned-to}
use Rattle.smoothing.specs.Smoothing.{softened_at, softened_of}
use Rattle.smoothing.proofs.soften.Goals as goal

pub returns-then-source-lt3 : goal.returns-then-source-lt3
unfolding softened_of
returns-then-source-lt3 c =
    let s = c.args.source.now in
    c.copy.ensures ∙ turned-to (length s - 1) (turned_none (λ b x. softened_at s b) 1 s) (inr refl) (omega arith)

pub returns : goal.returns
unfolding softened_of
returns c =
    let s = c.args.source.now in
    c.soften_inside.ensures ∙ ap (λ (l : List Float). map_range (λ b x. softened_at s b) 1 (length s - 1) l) c.copy.ensures
