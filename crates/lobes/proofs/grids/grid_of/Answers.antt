-- `lobes::grids::grid_of` meets its contract, field by field. Assumes nothing.
use Rattle.lobes.specs.Grid.{grid_of}
use Rattle.lobes.proofs.grids.grid_of.Goals as goal

pub returns : goal.returns
unfolding grid_of
returns c =
    let partials = simp c.max.ensures at c.min.ensures in
    simp (
      partials,
      c.exp2-2.ensures,
      c.exp2.ensures,
      c.bin_hz.ensures,
      c.max-width.ensures,
    )
