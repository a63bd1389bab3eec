-- What the stages of a logarithm hand on: the digits of a number that has one, the guess that the
-- search for their step begins with, and the step with the entries at its ends. Assumes nothing.
use Rattle.std.specs.Prelude.{◌≡◌, ℕ, ◌+◌, ◌-◌, ◌*◌, ◌/◌, ◌%◌, ◌^◌, Float}
use Rattle.std.specs.Float.{binary32}
use Rattle.std.specs.Float.Ieee.{to_bits}
use Rattle.power.specs.Table.{high_bits, P}
use Rattle.power.specs.Log.{greatest}

-- 128 * M of a positive normal v = M * 2 ^ (e - 23): its bit pattern has the digits of M below the
-- leading one
abbrev pub digits_of : Float → ℕ
digits_of v = (to_bits binary32 v % 2 ^ 23 + 2 ^ 23) * 128

-- h is the step that t lies in, and a and b are the entries at its ends
pub record EndsAt (t h a b : ℕ) : Type 0 where
  pub step : h ≡ greatest P t (2 ^ high_bits)
  pub from : a ≡ P h
  pub to : b ≡ P (h + 1)

-- The step for the eleven leading digits m of a fraction x, or the one before it: log2 (1 + x) is a
-- little above x * (1.4369 - x * (0.672 - x * (0.3147 - x * 0.0798))), whose factors are these in
-- parts of 2 ^ 52, 2 ^ 41, 2 ^ 30 and 2 ^ 19
abbrev pub FIRST : ℕ
FIRST = 6471222304568666

abbrev pub SECOND : ℕ
SECOND = 1477743627730

abbrev pub THIRD : ℕ
THIRD = 337906552

abbrev pub FOURTH : ℕ
FOURTH = 41838

abbrev pub guessed : ℕ → ℕ
guessed m = m * (FIRST - m * (SECOND - m * (THIRD - m * FOURTH))) / 2 ^ 53

-- the guess for t = 2 ^ 30 * (1 + x)
abbrev pub guess_of : ℕ → ℕ
guess_of t = guessed (t / 2 ^ 19 % 2 ^ 11)
