-- Document 01's sqrt, which is IEEE 754's squareRoot to the nearest value. A NaN, and every number
-- below zero, gives NaN; each of the two zeros gives itself; +infinity gives +infinity; any other
-- number gives the value of the format that is nearest to its real root. Assumes nothing.
use Rattle.std.specs.Prelude.{◌≡◌, true, false, cond, leb, Float}
use Prim.Native.Nat.{ℕ, zero, suc, ◌+◌, ◌-◌, ◌*◌, ◌/◌, ◌^◌, ◌≤◌, ◌<◌, compare}
use Rattle.std.specs.Float.{nan, inf, fin, Format}
use Rattle.std.specs.Float.Ieee.{prec, low, size, nearest, units}
use Rattle.float_laws.specs.Units.{mag}

-- ---- the root of a whole number

-- r is the whole part of the root of n: the greatest whole number whose square is at most n
pub record IsRoot (n r : ℕ) : Type 0 where
  pub under : r * r ≤ n
  pub over : n < suc r * suc r

-- That number, for an n below 4 ^ k. A root has one binary digit for each two of n, and its digits
-- but the last are the root of n / 4.
unfoldable pub root_below : ℕ → ℕ → ℕ
root_below zero n = 0
root_below (suc k) n = let r = root_below k (n / 4) in cond (leb ((2 * r + 1) * (2 * r + 1)) n) (2 * r + 1) (2 * r)

unfoldable pub whole_root : ℕ → ℕ
unfolding root_below size
whole_root n = root_below (size n) n

-- ---- the root of a float

-- The value of the format f that is nearest to the root of N, in units of f's smallest value.
-- Of the root's whole part the format keeps the `prec` leading digits, q, and drops k: the root
-- lies between q * 2 ^ k and (q + 1) * 2 ^ k, two neighbours in f. The upper one is nearer where
-- the root is above (q + 1 / 2) * 2 ^ k, that is where 4 * N is above (2 * q + 1) ^ 2 * 4 ^ k. A
-- tie would go to the even one, but no value of f has its root at a tie.
unfoldable pub nearest_root : Format → ℕ → Float
unfolding whole_root size units
nearest_root f N =
    let r = whole_root N in
    let k = size r - prec f in
    let q = r / 2 ^ k in
    units f false (nearest q (compare (4 * N) ((2 * q + 1) * (2 * q + 1) * 4 ^ k))) k

-- `mag f x` counts x in f's smallest value, 2 ^ -low. So x is mag f x * 2 ^ low times the square of
-- that value.
unfoldable pub square_root_of : Format → Float → Float
unfolding nearest_root mag
square_root_of f nan = nan
square_root_of f (inf true) = nan
square_root_of f (inf false) = inf false
square_root_of f (fin s zero e) = fin s zero e
square_root_of f (fin true (suc m) e) = nan
square_root_of f (fin false (suc m) e) = nearest_root f (mag f (fin false (suc m) e) * 2 ^ low f)

-- ---- what the parts of the code promise

-- r is the whole number nearest to the root of n: n lies between (r - 1 / 2) ^ 2, which is
-- r * r - r + 1 / 4, and (r + 1 / 2) ^ 2. It is never one of the two.
pub record IsNearestRoot (n r : ℕ) : Type 0 where
  pub under : r * r < n + r
  pub over : n ≤ r * r + r

-- n is digits * 4 ^ fours, and the root of digits has 24 bits, also once it is rounded
pub record ByFours (n digits fours : ℕ) : Type 0 where
  pub value : n ≡ digits * 4 ^ fours
  pub least : 2 ^ 46 ≤ digits
  pub most : digits ≤ 2 ^ 48 - 2 ^ 24
  pub few : fours ≤ 189
