-- `greatest_from` finds the greatest of the run: that of a row that has all of the run and nothing
-- else, by the negated row. Assumes nothing.
use mathlib.Core.Path.{refl, ◌∙◌}
use native.Mathlib.Omega.{arith}
use Rattle.blocks.proofs.Runs.{greatest-of-none, row-numbers, greatest-of-run, negated-length, negated-numbers, least-negated}
use Rattle.blocks.proofs.greatest_from.Goals as goal

pub returns-then-from-start : goal.returns-then-from-start
returns-then-from-start c = (greatest-of-none c.if-from-start.true, λ h. refl)

pub take_row-requires : goal.take_row-requires
take_row-requires c = (c.requires.0, c.if-from-start.false)

pub least_of-requires : goal.least_of-requires
least_of-requires c =
    let w = c.take_row.ensures in
    (negated-length _ c.negate.ensures ∙ w.is-long, negated-numbers _ c.negate.ensures (row-numbers c.args.start w c.requires.1))

pub shape_of-row : goal.shape_of-row
shape_of-row c =
    c.least_of.auto.row ∙ c.negate.auto.row ∙ c.take_row.auto.row

pub returns : goal.returns
returns c =
    let w = c.take_row.ensures in (
      greatest-of-run c.args.start w (least-negated _ c.negate.ensures (row-numbers c.args.start w c.requires.1) c.least_of.ensures),
      λ h. absurd (omega (arith, h, c.if-from-start.false)),
    )
