-- Floats in a scene record: each is the four bytes of its bit pattern, "most significant first",
-- and one follows the other. Assumes nothing.
use Rattle.std.specs.Prelude.{List, ℕ, Float}
use Rattle.std.specs.Float.Ieee.{of_bits, to_bits}
use Rattle.std.specs.Float.{binary32}
use Rattle.lists.specs.Bytes.{number_at, bytes_of}
use Rattle.lists.specs.Pieces.{pieces, pieces_of}

abbrev pub float_bytes : Float → List ℕ
float_bytes x = bytes_of 4 (to_bits binary32 x)

abbrev pub float_at : List ℕ → ℕ → Float
float_at bytes at = of_bits binary32 (number_at bytes at 4)

-- the bytes of floats that follow one another
abbrev pub floats_bytes : List Float → List ℕ
floats_bytes floats = pieces float_bytes floats

-- the n floats at the start of some bytes
abbrev pub floats_of : List ℕ → ℕ → List Float
floats_of bytes n = pieces_of (λ rest. float_at rest 0) 4 bytes n
