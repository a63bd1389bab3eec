-- `float32::remainder::whole_part` meets its contract: the nearest whole number is the whole part,
-- or one more. Assumes nothing.
use Rattle.std.proofs.Common.{T, sym, subst}
use lib.Ieee.{binary32, fits}
use Rattle.float32.proofs.RemainderByOne.{cut-above, cut_below}
use Rattle.float32.proofs.remainder.whole_part.Goals.{Start}
use Rattle.float32.proofs.remainder.whole_part.Goals as goal

held : (c : Start) → T (fits binary32 c.args.size)
held c = subst T (sym c.well_formed.0.1) tt

pub returns-then-size-nearest : goal.returns-then-size-nearest
returns-then-size-nearest c = cut-above c.args.size (held c.before) c.requires.0 c.requires.1 c.if-size-nearest.true

pub returns-else-size-nearest : goal.returns-else-size-nearest
returns-else-size-nearest c = cut_below c.args.size (held c.before) c.requires.0 c.requires.1 c.if-size-nearest.false
