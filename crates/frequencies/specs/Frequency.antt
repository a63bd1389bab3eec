-- The frequency table of document 01: "`MaskWorkspace::prepare` writes 0 at entry 0 and
-- L2(bin·bin_hz) above." Assumes nothing.
use Rattle.std.specs.Prelude.{cond, ℕ, eqb, pos, Float}
use Rattle.std.specs.Float.{binary32}
use Rattle.std.specs.Float.Ieee.{div, mul, of_int}
use Rattle.float32.specs.Remainder.{zero}
use Rattle.power.specs.Log.{L2}

-- the bin spacing in hertz
abbrev pub bin_hertz : Float → ℕ → Float
bin_hertz rate size = div binary32 rate (of_int binary32 (pos size))

-- the frequency of a bin
abbrev pub hertz : Float → ℕ → Float
hertz spacing bin = mul binary32 (of_int binary32 (pos bin)) spacing

-- a bin's frequency; 0 for bin 0, whose L2 is 0 too
unfoldable pub hertz_or_zero : Float → ℕ → Float
hertz_or_zero spacing bin = cond (eqb bin 0) zero (hertz spacing bin)

unfoldable pub log2_hz : Float → ℕ → Float
log2_hz spacing bin = cond (eqb bin 0) zero (L2 (hertz spacing bin))

-- the table's entry at a bin
abbrev pub prepared : Float → ℕ → ℕ → Float
prepared rate size bin = log2_hz (bin_hertz rate size) bin
