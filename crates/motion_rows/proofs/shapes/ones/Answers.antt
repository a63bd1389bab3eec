-- `ones` fills the first `count` places with 1. Assumes nothing.
use mathlib.Core.Path.{ap, ◌∙◌}
use mathlib.Core.List.{List, ◌++◌}
use Prim.Native.Nat.{ℕ}
use lib.ListN.{drop, replicate}
use lib.Seq.{length-take-le}
use lib.Ieee.{Float}
use Rattle.lists.specs.Maps.{replicate-front}
use Rattle.float32.specs.Remainder.{one}
use Rattle.motion_rows.proofs.shapes.ones.Goals as goal

pub returns : goal.returns
returns c =
    let a = c.args in
    ap (λ (l : List Float). l ++ drop a.count a.row.now)
    (c.fill.ensures.after (λ y e. e) ∙ ap (λ (n : ℕ). replicate n one) (length-take-le _ _ c.requires))
    ∙ replicate-front one a.count a.row.now c.requires
