-- `lobes::pan::pan_of` meets its contract, by its test. Assumes nothing.
use Rattle.lobes.proofs.pan.pan_of.Goals as goal

pub returns-then-is_finite : goal.returns-then-is_finite
returns-then-is_finite c = simp (← c.is_finite.ensures, c.if-is_finite.true) c.clamp.ensures

pub returns : goal.returns
returns c = simp (← c.is_finite.ensures, c.if-is_finite.false)
