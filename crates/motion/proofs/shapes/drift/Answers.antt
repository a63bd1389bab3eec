-- `motion::shapes::drift` meets its contract: the three layers are what `sin` ensures of their
-- angles. Assumes nothing.
use mathlib.Core.Path.{◌∙◌}
use Rattle.motion.specs.Shapes.{drift, broad, middle, detail}
use Rattle.motion.proofs.shapes.drift.Goals as goal

pub returns : goal.returns
unfolding drift broad middle detail
returns c =
    c.layered.ensures
    ∙ simp
    (c.sin-detail.ensures, c.detail_angle.ensures, c.sin-middle.ensures, c.middle_angle.ensures, c.sin-broad.ensures, c.broad_angle.ensures)
