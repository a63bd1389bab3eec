-- E2 of document 01, for 2 ^ x. With X = floor (x * 2 ^ 24), n = floor (X / 2 ^ 24) and
-- F = X mod 2 ^ 24 the result is floor (I(F) / 128) * 2 ^ (n - 23).
-- X and n can be negative, while the definitions use natural numbers. So x is first moved up by
-- 128: `moved 128 x` is floor ((x + 128) * 2 ^ 24), which is X + 128 * 2 ^ 24. As 128 * 2 ^ 24 is a
-- multiple of 2 ^ 24, dividing that by 2 ^ 24 gives N = n + 128, and the remainder is F itself. For
-- an x below -128 `moved 128 x` stays at 0, which makes the result 0, as it is everywhere below
-- -126.
-- Each definition takes a table p and its w low bits, and E2 is that for P. That it is what
-- document 01 says, without any moving, is shown in proofs/Ends.antt and proofs/Between.antt.
-- Assumes nothing.
use Rattle.std.specs.Prelude.{true, false, cond, ℕ, ◌-◌, ◌/◌, ◌%◌, ◌^◌, ltb, pos, Float}
use Rattle.std.specs.Float.{fin}
use Rattle.std.specs.Float.Ieee.{odd, is_nan}
use Rattle.float32.specs.Value.{moved}
use Rattle.lists.specs.Interpolation.{interp}
use Rattle.power.specs.Table.{low_bits, P}

-- +0, and the largest finite f32
abbrev pub positive_zero : Float
positive_zero = fin false 0 (pos 0)

abbrev pub largest : Float
largest = fin false 16777215 (pos 104)

-- -126 and 128, between which the result is neither of these two
abbrev pub lowest : Float
lowest = fin true 63 (pos 1)

abbrev pub limit : Float
limit = fin false 1 (pos 7)

-- Below -126, where N is below 2, it is 0, and from 128 up, where N is 256 or more, the largest
-- finite f32. Between it is floor (I(F) / 128) * 2 ^ (n - 23), and n - 23 is (N - 2) - 149:
-- `odd 24 false q k 149` is the float q * 2 ^ (k - 149), for a q of at most 24 binary digits
unfoldable pub power_at : ℕ → (ℕ → ℕ) → ℕ → ℕ → Float
power_at w p N F = cond (ltb N 2) positive_zero (cond (ltb N 256) (odd 24 false (interp w p F / 128) (N - 2) 149) largest)

-- a NaN gives 0
unfoldable pub power_of : ℕ → (ℕ → ℕ) → Float → Float
power_of w p x = cond (is_nan x) positive_zero (power_at w p (moved 128 x / 2 ^ 24) (moved 128 x % 2 ^ 24))

unfoldable pub E2 : Float → Float
E2 x = power_of low_bits P x
