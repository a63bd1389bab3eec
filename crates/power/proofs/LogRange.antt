-- Where L2's results lie: from -126 to 128, for every v, since k = e + 126 is from 0 to 253 and F
-- below 2 ^ 24; and of a power of two it is e itself, since I(0) = 2 ^ 30 makes F 0. Assumes
-- nothing.
use mathlib.Core.Path.{◌≡◌, refl, sym, ap, ◌∙◌}
use mathlib.Core.Bool.{Bool, true, false, not, cond}
use Prim.Native.Nat.{ℕ, ◌+◌, ◌-◌, ◌*◌, ◌^◌, ◌≤◌, zero-le}
use native.Mathlib.Nat.{add-zero, lt_of_le_of_lt}
use native.Mathlib.Omega.{arith}
use lib.Dec.{T, lit≤, lit<, ltb}
use lib.Count.{count_trailing_zeros}
use lib.Ieee.{Float, binary32, le, round, size, span, climb, units, odd, fits}
use lib.Ieee.Bits.{is_true, is_false}
use lib.Ieee.Digits.{size-le}
use lib.Ieee.Exact.{HasValue}
use lib.Ieee.Fits.{and_r}
use Rattle.float_laws.specs.Units.{number, real}
use Rattle.float_laws.specs.Round.{round_number}
use Rattle.float_laws.specs.Bounds.{real-between}
use Rattle.power.specs.Table.{power_table, I}
use Rattle.power.specs.Rules.{Roots}
use Rattle.power.proofs.Rules.{P-rule}
use Rattle.power.specs.Power.{positive_zero, largest, lowest, limit}
use Rattle.power.specs.Log.{greatest, least_normal, positive_normal, units_of, rounded, log_at, log_of, L2}
use Rattle.power.proofs.Division.{found-by-division}
use Rattle.power.proofs.Logs.{L2-is, L2-elsewhere}
use Rattle.power.proofs.LogRising.{rounded-mono, M-low, F-lt}
use Rattle.power.proofs.Normal.{largest-value, units-are, units-low, units_mono}

-- ---- of a power of two
F-first : greatest I (128 * 2 ^ 23) (2 ^ 24) ≡ 0
unfolding power_table
F-first = sym (found-by-division P-rule (128 * 2 ^ 23) 0 (lit< tt) (lit≤ tt) (lit< tt))

pub L2-of-power : (v : Float) (k : ℕ) → k ≤ 253 → HasValue v false (2 ^ 23 * 2 ^ k) (2 ^ 149) → L2 v ≡ rounded (k * 2 ^ 24)
L2-of-power v k h is = L2-is v (2 ^ 23) k (lit≤ tt) (lit< tt) h is ∙ ap (λ (F : ℕ). rounded (k * 2 ^ 24 + F)) F-first ∙ ap rounded (add-zero (k * 2 ^ 24))

-- ---- the range
least-is : rounded 0 ≡ lowest
unfolding rounded round size span climb units odd count_trailing_zeros
least-is = refl

most-is : rounded (254 * 2 ^ 24) ≡ limit
unfolding rounded round size span climb units odd count_trailing_zeros
most-is = refl

rounded-range : (Y : ℕ) → Y ≤ 254 * 2 ^ 24 → T (le lowest (rounded Y)) × T (le (rounded Y) limit)
rounded-range Y h = (rw least-is at (rounded-mono 0 Y zero-le), rw most-is at (rounded-mono Y (254 * 2 ^ 24) h))

largest-units : units_of largest ≡ 16777215 * 2 ^ 253
largest-units = units-are largest (16777215 * 2 ^ 253) largest-value

module _ {k w : ℕ} {p : ℕ → ℕ} (R : Roots k w p) (v : Float) (t : T (positive_normal v)) where
  digits-high : size (units_of v) ≤ 277
  unfolding le
  digits-high = size-le (units_of v) 277 (lt_of_le_of_lt (units_mono v largest t tt (and_r (le least_normal v) (le v largest) t)) (rw largest-units (lit< tt)))

  log-range : T (le lowest (log_of w p v)) × T (le (log_of w p v) limit)
  unfolding log_of log_at
  log-range = rw (is_true (positive_normal v) t) (rounded-range _ (let u = digits-high in let f = F-lt R _ (M-low (units_of v) (units-low v t)) in omega arith))

normal-range : (v : Float) → T (positive_normal v) → T (le lowest (L2 v)) × T (le (L2 v) limit)
unfolding L2
normal-range = log-range P-rule

pub L2-range : (v : Float) → T (le lowest (L2 v)) × T (le (L2 v) limit)
unfolding le
L2-range v = go (positive_normal v) (normal-range v) (λ (n : T (not (positive_normal v))). L2-elsewhere v (is_false (positive_normal v) n))
  where
    go : (b : Bool) → (T b → T (le lowest (L2 v)) × T (le (L2 v) limit)) → (T (not b) → L2 v ≡ positive_zero) → T (le lowest (L2 v)) × T (le (L2 v) limit)
    go true y n = y tt
    go false y n = rw (n tt) (tt, tt)

rounded-number : (Y : ℕ) → T (number binary32 (rounded Y))
unfolding rounded
rounded-number Y = go (ltb Y (126 * 2 ^ 24)) (126 * 2 ^ 24 - Y) (Y - 126 * 2 ^ 24)
  where
    go : (b : Bool) (m n : ℕ) → T (number binary32 (cond b (round binary32 true m (2 ^ 24)) (round binary32 false n (2 ^ 24))))
    go true m n = round_number binary32 true m (2 ^ 24)
    go false m n = round_number binary32 false n (2 ^ 24)

pub L2-number : (v : Float) → T (number binary32 (L2 v))
unfolding L2 log_of log_at fits
L2-number v = go (positive_normal v) _
  where
    go : (b : Bool) (Y : ℕ) → T (number binary32 (cond b (rounded Y) positive_zero))
    go true Y = rounded-number Y
    go false Y = tt

pub L2-real : (v : Float) → T (real binary32 (L2 v))
unfolding fits
L2-real v = real-between binary32 lowest (L2 v) limit (L2-number v) tt tt (L2-range v).0 (L2-range v).1
