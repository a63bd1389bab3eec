-- `bounds_of` is its two stages, one after the other. Assumes nothing.
use Rattle.lobe_bounds.proofs.Columns.{staged}
use Rattle.lobe_bounds.proofs.bounds_of.Goals as goal

pub returns : goal.returns
returns c =
    staged c.args.width c.args.low c.args.high c.args.strengths.now c.args.centers.now c.args.peaks.now c.args.count c.args.bounds.now
    c.nearest_places.ensures c.bounds_at_places.ensures
