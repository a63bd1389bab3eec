-- `least_from` finds the least of the run: that of a row that has all of the run and nothing else.
-- Assumes nothing.
use mathlib.Core.Path.{refl, ◌∙◌}
use native.Mathlib.Omega.{arith}
use Rattle.blocks.proofs.Runs.{least-of-none, row-numbers, least-of-run}
use Rattle.blocks.proofs.least_from.Goals as goal

pub returns-then-from-start : goal.returns-then-from-start
returns-then-from-start c = (least-of-none c.if-from-start.true, λ h. refl)

pub take_row-requires : goal.take_row-requires
take_row-requires c = (c.requires.0, c.if-from-start.false)

pub least_of-requires : goal.least_of-requires
least_of-requires c =
    (c.take_row.ensures.is-long, row-numbers c.args.start c.take_row.ensures c.requires.1)

pub shape_of-row : goal.shape_of-row
shape_of-row c =
    c.least_of.auto.row ∙ c.take_row.auto.row

pub returns : goal.returns
returns c =
    (least-of-run c.args.start c.take_row.ensures c.least_of.ensures, λ h. absurd (omega (arith, h, c.if-from-start.false)))
