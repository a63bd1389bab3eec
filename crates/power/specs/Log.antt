-- L2 of document 01, for log2 v. A positive normal v is M * 2 ^ (e - 23) with M in 2 ^ 23 ..
-- 2 ^ 24 - 1, and with F the greatest whose I(F) ≤ 128 * M the result is e + F / 2 ^ 24, rounded
-- once. Of any other v, for which document 01 says nothing, it is 0.
-- In units of 2 ^ -149, f32's smallest value, v is the whole number M * 2 ^ k, where k = e + 126 is
-- from 0 up: k is the number of its binary digits beyond 24, and M is the number without those.
-- Each definition takes a table p and its w low bits, and L2 is that for P. That it is what
-- document 01 says is shown in proofs/Logs.antt. Assumes nothing.
use Rattle.std.specs.Prelude.{Bool, true, false, cond, ◌&&◌, ℕ, zero, suc, ◌+◌, ◌-◌, ◌*◌, ◌/◌, ◌^◌, leb, ltb, negsuc, Float}
use Rattle.std.specs.Float.{fin, binary32}
use Rattle.std.specs.Float.Ieee.{le, round, size}
use Rattle.float32.specs.Value.{above, below}
use Rattle.lists.specs.Interpolation.{interp}
use Rattle.power.specs.Table.{low_bits, P}
use Rattle.power.specs.Power.{positive_zero, largest}

-- The greatest F below n with f F ≤ t, tried from the top down; 0 where there is none. That it is
-- the greatest, and the only one, is proved in proofs/Greatest.antt
unfoldable pub greatest : (ℕ → ℕ) → ℕ → ℕ → ℕ
greatest f t zero = 0
greatest f t (suc n) = cond (leb (f n) t) n (greatest f t n)

-- 2 ^ -126, the least positive normal f32
abbrev pub least_normal : Float
least_normal = fin false 1 (negsuc 125)

abbrev pub positive_normal : Float → Bool
positive_normal v = le least_normal v && le v largest

-- v in units of 2 ^ -149, for a v from 0 up
unfoldable pub units_of : Float → ℕ
units_of v = above v * 2 ^ 149 / below v

-- e + F / 2 ^ 24 rounded once, for Y = (e + 126) * 2 ^ 24 + F
unfoldable pub rounded : ℕ → Float
rounded Y = cond (ltb Y (126 * 2 ^ 24)) (round binary32 true (126 * 2 ^ 24 - Y) (2 ^ 24)) (round binary32 false (Y - 126 * 2 ^ 24) (2 ^ 24))

-- for M * 2 ^ k units
unfoldable pub log_at : ℕ → (ℕ → ℕ) → ℕ → Float
log_at w p units = let k = size units - 24 in let M = units / 2 ^ k in rounded (k * 2 ^ 24 + greatest (interp w p) (128 * M) (2 ^ 24))

unfoldable pub log_of : ℕ → (ℕ → ℕ) → Float → Float
log_of w p v = cond (positive_normal v) (log_at w p (units_of v)) positive_zero

unfoldable pub L2 : Float → Float
L2 v = log_of low_bits P v
