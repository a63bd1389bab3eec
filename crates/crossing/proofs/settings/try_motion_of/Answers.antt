-- `try_motion_of` meets its contract: what is done has a shape below 8. Assumes nothing.
use Rattle.crossing.proofs.settings.try_motion_of.Goals as goal

pub returns : goal.returns
returns c = (c.in_ok-try_from.ensures.0, c.motion_of.ensures)
