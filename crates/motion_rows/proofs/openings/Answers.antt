-- `openings` is its four stages, one after the other; where the shape is event-driven every bin is
-- open. Assumes nothing.
use mathlib.Core.Path.{sym, ◌∙◌}
use Rattle.motion_rows.proofs.StagedField.{openings-staged, openings-of-events}
use Rattle.motion_rows.proofs.openings.Goals as goal

pub returns-then-made_of_events : goal.returns-then-made_of_events
returns-then-made_of_events c =
    let a = c.args in
    c.ones.ensures ∙ openings-of-events a.field a.bin_hz a.start a.count (sym c.made_of_events.ensures ∙ c.if-made_of_events.true) a.row.now

pub returns : goal.returns
returns c =
    let a = c.args in
    let e = rw (c.shape_row.ensures, c.log2_row.ensures, c.ratios.ensures) at c.open_below.ensures in
    e ∙ openings-staged a.field a.bin_hz a.start a.count a.row.now
