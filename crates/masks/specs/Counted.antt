-- The decibels that a curve value counts as, so that its gain is one power: those of a muted value
-- are so few that the power is 0. Assumes nothing.
use Rattle.std.specs.Prelude.{cond, Float}
use Rattle.std.specs.Float.{binary32}
use Rattle.std.specs.Float.Ieee.{of_bits}
use Rattle.float32.specs.Order.{minimum}
use Rattle.float32.specs.Remainder.{zero}
use Rattle.masks.specs.Manual.{muted}

-- -1,000
abbrev pub silent_db : Float
silent_db = of_bits binary32 0xc47a0000

unfoldable pub counted_as : Float → Float
counted_as db = cond (muted db) silent_db (minimum db zero)
