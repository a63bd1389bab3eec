-- A power of 2 by the stages in which a row of numbers is computed. Assumes nothing.
use Rattle.std.specs.Prelude.{◌≡◌, Bool, true, false, cond, ◌&&◌, ℕ, ◌/◌, ◌%◌, ◌^◌, pos, Float}
use Rattle.std.specs.Float.{fin}
use Rattle.std.specs.Float.Ieee.{le, lt}
use Rattle.float32.specs.Value.{moved}
use Rattle.power.specs.Table.{I}
use Rattle.power.specs.Power.{positive_zero}

-- from -126 on and below 128, where 2^x is neither 0 nor the largest f32
unfoldable pub between : Float → Bool
between x = le (fin true 63 (pos 1)) x && lt x (fin false 1 (pos 7))

-- x, or 0 beyond those ends
abbrev pub clipped : Float → Float
clipped x = cond (between x) x positive_zero

-- the 24 leading bits of I(F), F being the 24 low bits of y
abbrev pub digits : ℕ → ℕ
digits y = I (y % 2 ^ 24) / 128

-- y and q are the steps and the 24 bits of x
pub record Found (x : Float) (y q : ℕ) : Type 0 where
  pub steps : y ≡ moved 128 (clipped x)
  pub power : q ≡ digits y
