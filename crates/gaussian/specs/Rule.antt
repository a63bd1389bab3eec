-- The rule of the Gaussian table: "entry i being exp(-i/128)", with document 01's exp. The Rust
-- writes -0.5 * (i * 16 / 1024) for -i/128: each of its steps is exact, so it is the same number.
-- That the table has these entries is shown in proofs/Rule.antt. Assumes nothing.
use Rattle.std.specs.Prelude.{ℕ, pos, Float}
use Rattle.std.specs.Float.{binary32}
use Rattle.std.specs.Float.Ieee.{of_bits, of_int, neg, div}
use Rattle.power.specs.Decimal.{exp}

-- entries per unit of the exponent
abbrev pub steps_to_one : Float
steps_to_one = of_bits binary32 0x4300_0000

-- exp(-i/128)
abbrev pub entry_of : ℕ → Float
entry_of i = exp (neg (div binary32 (of_int binary32 (pos i)) steps_to_one))
