-- `lobes::peaks::closest_bin_in_cents` meets its contract: its test is the definition's. Assumes
-- nothing.
use Rattle.lobes.proofs.Closest.{chosen}
use Rattle.tone_lobes.proofs.peaks.closest_bin_in_cents.Goals as goal

pub returns-then-cents : goal.returns-then-cents
returns-then-cents c =
    let lower = simp (c.max.ensures, c.floor_to_count.ensures)
    at c.min-lower.ensures in
    rw (chosen _ _ _ _ _ lower c.min-upper.ensures) (simp (← c.cents-2.ensures, ← c.cents.ensures, c.if-cents.true))

pub returns : goal.returns
returns c =
    let lower = simp (c.max.ensures, c.floor_to_count.ensures)
    at c.min-lower.ensures in
    rw (chosen _ _ _ _ _ lower c.min-upper.ensures) (simp (← c.cents-2.ensures, ← c.cents.ensures, c.if-cents.false))
