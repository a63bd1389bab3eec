-- The Rust's `smoothstep`, a smooth step from 0 to 1: p * p * (3 - 2 * p), rounded at each
-- operation. Assumes nothing.
use Rattle.std.specs.Prelude.{from_bits, Float}
use Rattle.std.specs.Float.{binary32}
use Rattle.std.specs.Float.Ieee.{sub, mul}

abbrev pub two : Float
two = from_bits binary32 0x4000_0000

abbrev pub three : Float
three = from_bits binary32 0x4040_0000

unfoldable pub smoothstep : Float → Float
smoothstep p = mul binary32 (mul binary32 p p) (sub binary32 three (mul binary32 two p))
