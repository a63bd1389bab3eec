-- The sides that are raised together: left and right of a stereo mask; of a mono mask the only one,
-- and a second that is not used. Assumes nothing.
use Rattle.std.specs.Prelude.{Bool, true, false}
use Rattle.lobes.specs.Pan.{Side, mono, left, right}

abbrev pub first_side : Bool → Side
first_side true = left
first_side false = mono

abbrev pub second_side : Bool → Side
second_side true = right
second_side false = mono
