-- "rem_euclid(1) of v is v % 1, and where that is below 0 its rounded sum with 1." The sum can be
-- 1. Assumes nothing.
use Rattle.std.specs.Prelude.{◌/◌, ◌^◌, cond, pos, from_bits, Float}
use Rattle.std.specs.Float.{binary32}
use Rattle.std.specs.Float.Ieee.{low, of_int, rem, add, lt}
use Rattle.float_laws.specs.Units.{mag}

abbrev pub zero : Float
zero = from_bits binary32 0x0000_0000

abbrev pub one : Float
one = from_bits binary32 0x3f80_0000

abbrev pub half : Float
half = from_bits binary32 0x3f00_0000

unfoldable pub rem_euclid_one : Float → Float
rem_euclid_one v = let r = rem binary32 v one in cond (lt r zero) (add binary32 r one) r

-- The integer part of the size of `a`, for an `a` below 2 ^ 24: `mag` counts it in units of
-- 2 ^ -149, f32's smallest value.
unfoldable pub whole_part : Float → Float
whole_part a = of_int binary32 (pos (mag binary32 a / 2 ^ low binary32))

-- 2 ^ 23: from here on every f32 is a whole number
abbrev pub all_whole : Float
all_whole = from_bits binary32 0x4b00_0000
