-- `least_of` finds the least: each halving keeps what lies below all of the row, and one number is
-- left. Assumes nothing.
use Rattle.blocks.proofs.Halved.{covers-all, covers-half, covers_one}
use Rattle.blocks.proofs.rows.least_of.Goals as goal

pub returns : goal.returns
returns c =
    let p = c.requires in
    let c32 = covers-half 32 (covers-all 64 p.0 p.1) c.halve.ensures in
    let c16 = covers-half 16 c32 c.halve-2.ensures in
    let c8 = covers-half 8 c16 c.halve-3.ensures in
    let c4 = covers-half 4 c8 c.halve-4.ensures in
    let c2 = covers-half 2 c4 c.halve-5.ensures in
    covers_one 64 p.0 (covers-half 1 c2 c.halve-6.ensures)
