-- Amplitude decibels as a linear gain: powf(10, db / 20) of document 01, the quotient rounded.
-- Assumes nothing.
use Rattle.std.specs.Prelude.{Float}
use Rattle.std.specs.Float.{binary32}
use Rattle.std.specs.Float.Ieee.{of_bits, div}
use Rattle.power.specs.Decimal.{pow10}

-- 20 dB are a factor of 10
abbrev pub decibels_per_decade : Float
decibels_per_decade = of_bits binary32 0x41a00000

abbrev pub gain_of : Float → Float
gain_of db = pow10 (div binary32 db decibels_per_decade)
