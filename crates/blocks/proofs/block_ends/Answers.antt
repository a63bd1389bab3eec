-- `block_ends` finds the ends of every block: at the head of the loop those of the blocks before
-- the current one are written. Assumes nothing.
use mathlib.Core.Path.{◌≡◌, refl, subst, ◌∙◌}
use Prim.Native.Nat.{ℕ, ◌+◌, ◌/◌}
use native.Mathlib.Omega.{arith}
use lib.ListN.{set, length-set}
use Rattle.blocks.proofs.Walk.{Ended, ended-none, ended-more, ended-all}
use Rattle.blocks.proofs.block_ends.Goals as goal

pub loop-start-init : goal.loop-start-init
loop-start-init c = (refl, refl, refl, refl, ended-none _ _ _)

pub least_from-requires : goal.least_from-requires
least_from-requires c =
    (c.loop-start.invariant.3 ∙ c.requires.0, λ k a b w. c.requires.3 k (omega (arith, c.loop-start.invariant.0)) w w)

pub greatest_from-requires : goal.greatest_from-requires
greatest_from-requires c =
    (c.least_from.auto.row ∙ c.loop-start.invariant.3 ∙ c.requires.0, λ k a b w. c.requires.3 k (omega (arith, c.loop-start.invariant.0)) w w)

pub loop-start-preserved : goal.loop-start-preserved
loop-start-preserved c =
    let l = c.loop-start in
    let i = l.invariant in
    let block = l.start / 64 in
    let next : block + 1 ≡ (l.start + 64) / 64 = omega arith in (
      omega (arith, i.0),
      length-set l.lows block c.least_from.result ∙ i.1,
      length-set l.highs block c.greatest_from.result ∙ i.2,
      c.greatest_from.auto.row ∙ c.least_from.auto.row ∙ i.3,
      subst (λ (n : ℕ). Ended n c.args.table.now (set l.lows block c.least_from.result) (set l.highs block c.greatest_from.result)) next (ended-more l.start i.0 (omega arith) (omega arith) i.4 c.least_from.ensures.0 c.greatest_from.ensures.0),
    )

pub shape_of-lows : goal.shape_of-lows
shape_of-lows c = c.loop-start.invariant.1

pub shape_of-highs : goal.shape_of-highs
shape_of-highs c = c.loop-start.invariant.2

pub shape_of-row : goal.shape_of-row
shape_of-row c = c.loop-start.invariant.3

pub returns : goal.returns
returns c =
    let i = c.loop-start.invariant in
    ended-all (omega (arith, i.0, c.loop-start-test.false)) i.4

pub returns-2 : goal.returns-2
returns-2 c =
    let l = c.loop-start in
    ended-all (omega (arith, l.invariant.0)) (ended-more l.start l.invariant.0 (omega arith) (omega arith) l.invariant.4 c.least_from.ensures.0 c.greatest_from.ensures.0)
