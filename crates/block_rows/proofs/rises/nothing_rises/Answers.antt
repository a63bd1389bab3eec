-- `nothing_rises` compares the bound under each gain with the least of the block. Assumes nothing.
use mathlib.Core.Bool.{true≢false}
use mathlib.Core.Path.{sym, ◌∙◌}
use Prim.Native.Nat.{◌+◌}
use native.Mathlib.Omega.{arith}
use lib.Dec.{lit≤}
use lib.Ieee.{binary32, mul}
use Rattle.float_laws.specs.Rise.{upto-mul}
use Rattle.block_rows.proofs.Held.{open-numbers, under-least}
use Rattle.block_rows.proofs.rises.nothing_rises.Goals as goal

pub least_from-requires : goal.least_from-requires
least_from-requires c =
    (c.requires.1, open-numbers c.args.start (c.args.start + 64) c.args.first.now c.requires.0.sides.first-open)

pub least_from-requires-then-bound-gains : goal.least_from-requires-then-bound-gains
least_from-requires-then-bound-gains c =
    (omega (arith, c.least_from.auto, c.requires.1), open-numbers c.args.start (c.args.start + 64) c.args.second.now c.requires.0.sides.second-open)

pub returns-then-bound-gains : goal.returns-then-bound-gains
returns-then-bound-gains c =
    let bound = c.args.bound in
    let gains = c.args.gains in
    λ e. (
      under-least (mul binary32 bound gains.first) c.least_from.result c.args.start c.args.first.now (upto-mul binary32 0 3 bound gains.first (lit≤ tt) c.requires.2 c.requires.0.gains.first-gain) c.requires.0.sides.first-open c.least_from.ensures.0 c.if-bound-gains.true,
      under-least (mul binary32 bound gains.second) c.least_from-then-bound-gains.result c.args.start c.args.second.now (upto-mul binary32 0 3 bound gains.second (lit≤ tt) c.requires.2 c.requires.0.gains.second-gain) c.requires.0.sides.second-open c.least_from-then-bound-gains.ensures.0 e,
    )

pub returns-else-bound-gains : goal.returns-else-bound-gains
returns-else-bound-gains c = λ e. absurd (true≢false (sym e ∙ c.if-bound-gains.false))
