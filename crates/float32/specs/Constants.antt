-- "Rust's f32 constants", each by its bits: the f32 nearest to the number that it is named after.
-- Assumes nothing.
use Rattle.std.specs.Prelude.{from_bits, Float}
use Rattle.std.specs.Float.{binary32}

-- the logarithms to base 2 of 10 and of e, and the logarithm to base 10 of 2
abbrev pub log2_10 : Float
log2_10 = from_bits binary32 0x4054_9a78

abbrev pub log2_e : Float
log2_e = from_bits binary32 0x3fb8_aa3b

abbrev pub log10_2 : Float
log10_2 = from_bits binary32 0x3e9a_209b

-- the whole turn, its eighth, and the square root of 2
abbrev pub tau : Float
tau = from_bits binary32 0x40c9_0fdb

abbrev pub frac_pi_4 : Float
frac_pi_4 = from_bits binary32 0x3f49_0fdb

abbrev pub sqrt_2 : Float
sqrt_2 = from_bits binary32 0x3fb5_04f3
