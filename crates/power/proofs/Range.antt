-- Where E2's results lie: finite and never negative; at most 1 up to 0 and at least 1 from 0 up;
-- positive and normal from -126 up, with the bits said here.
-- All but the last follow from E2 never falling and its values at -126, 0 and infinity. Assumes
-- nothing.
use mathlib.Core.Path.{◌≡◌, refl, sym, ◌∙◌}
use mathlib.Core.Bool.{Bool, true, false, not, cond}
use Prim.Native.Nat.{ℕ, ◌+◌, ◌-◌, ◌*◌, ◌/◌, ◌%◌, ◌^◌, ◌≤◌, ◌<◌, zero-le}
use native.Mathlib.Nat.{le_of_lt, lt_of_lt_of_le}
use native.Mathlib.Omega.{arith}
use lib.Dec.{T, ltb, ltb→lt, lit<}
use lib.Pow.{pow_pos, pow_mono, shl_lt}
use lib.Count.{count_trailing_zeros}
use lib.Ieee.{Float, nan, inf, fin, binary32, odd, le, lt, is_nan, fits, of_bits}
use lib.Ieee.Fits.{and_i, odd-fits}
use lib.Ieee.Order.{le_of_values}
use Rattle.float_laws.specs.Units.{number, real}
use Rattle.float_laws.specs.Order.{le_right, lt-of-lt-of-le-f}
use Rattle.float_laws.specs.Bounds.{one, real-between}
use Rattle.float32.specs.Value.{moved}
use Rattle.float32.proofs.Made.{made}
use Rattle.lists.specs.Interpolation.{interp}
use Rattle.power.specs.Table.{low_bits, power_table, P, I}
use Rattle.power.proofs.Rules.{P-rule}
use Rattle.power.specs.Power.{positive_zero, largest, power_at, power_of, E2, lowest, limit}
use Rattle.power.specs.Log.{least_normal, positive_normal}
use Rattle.power.proofs.Interpolated.{interp-low, interp-high}
use Rattle.power.proofs.Rising.{E2-mono, power-value}
use Rattle.power.proofs.Made.{nan_is, at_mid}
use Rattle.power.proofs.Ends.{high-of-le, under-of-lt}

-- ---- three values
pub E2-zero : E2 positive_zero ≡ one
unfolding E2 power_of power_at moved interp power_table odd count_trailing_zeros is_nan
E2-zero = refl

E2-lowest : E2 lowest ≡ least_normal
unfolding E2 power_of power_at moved interp power_table odd count_trailing_zeros is_nan
E2-lowest = refl

E2-infinity : E2 (inf false) ≡ largest
unfolding E2 power_of power_at moved is_nan
E2-infinity = refl

-- ---- the range, for every x
from_zero : (x : Float) → T (not (is_nan x)) → T (le positive_zero (E2 x))
unfolding E2
from_zero x f = le_of_values positive_zero (power_of low_bits P x) 0 1 _ (2 ^ 149) (lit< tt) (pow_pos 149) (refl, refl) (power-value P-rule x f) zero-le

pub E2-nonneg : (x : Float) → T (le positive_zero (E2 x))
unfolding is_nan le
E2-nonneg nan = rw nan_is tt
E2-nonneg (inf s) = from_zero (inf s) tt
E2-nonneg (fin s m e) = from_zero (fin s m e) tt

to-largest : (x : Float) → T (le x (inf false)) → T (le (E2 x) largest)
to-largest x h = rw E2-infinity at (E2-mono x (inf false) h)

pub E2-at-most-largest : (x : Float) → T (le (E2 x) largest)
unfolding le
E2-at-most-largest nan = rw nan_is tt
E2-at-most-largest (inf true) = to-largest (inf true) tt
E2-at-most-largest (inf false) = to-largest (inf false) tt
E2-at-most-largest (fin s m e) = to-largest (fin s m e) tt

-- ---- a finite f32
module _ (F : ℕ) (h : F < 2 ^ 24) where
  pub q-low : 2 ^ 23 ≤ I F / 128
  q-low = let a = interp-low P-rule F h in omega arith

  pub q-high : I F / 128 < 2 ^ 24
  q-high = let a = interp-high P-rule F h in omega arith

  mid-fits : (N : ℕ) → N < 256 → T (fits binary32 (odd 24 false (I F / 128) (N - 2) 149))
  mid-fits N l = odd-fits binary32 24 false (I F / 128) (N - 2) q-high (le_of_lt q-high) (lt_of_lt_of_le (shl_lt {a = I F / 128} 24 (N - 2) q-high) (pow_mono {i = 24 + (N - 2)} {j = 277} (omega arith)))

at-fits : (a : Bool) (N F : ℕ) → F < 2 ^ 24 → T (fits binary32 (cond a positive_zero (power_at low_bits P N F)))
unfolding power_at fits
at-fits a N F h = go a (ltb N 2) (ltb N 256) (ltb→lt N 256)
  where
    go : (a b c : Bool) → (T c → N < 256) → T (fits binary32 (cond a positive_zero (cond b positive_zero (cond c (odd 24 false (I F / 128) (N - 2) 149) largest))))
    go true b c l = tt
    go false true c l = tt
    go false false true l = mid-fits F h N (l tt)
    go false false false l = tt

E2-fits : (x : Float) → T (fits binary32 (E2 x))
unfolding E2 power_of
E2-fits x = at-fits (is_nan x) (moved 128 x / 2 ^ 24) (moved 128 x % 2 ^ 24) (omega arith)

pub E2-number : (x : Float) → T (number binary32 (E2 x))
E2-number x = le_right binary32 positive_zero (E2 x) (E2-fits x) (E2-nonneg x)

pub E2-real : (x : Float) → T (real binary32 (E2 x))
unfolding fits
E2-real x = real-between binary32 positive_zero (E2 x) largest (E2-number x) tt tt (E2-nonneg x) (E2-at-most-largest x)

-- ---- about 1
pub E2-at-most-one : (x : Float) → T (le x positive_zero) → T (le (E2 x) one)
E2-at-most-one x h = rw E2-zero at (E2-mono x positive_zero h)

pub E2-at-least-one : (x : Float) → T (le positive_zero x) → T (le one (E2 x))
E2-at-least-one x h = rw E2-zero at (E2-mono positive_zero x h)

-- ---- from -126 up
pub E2-normal : (x : Float) → T (le lowest x) → T (positive_normal (E2 x))
E2-normal x h = and_i (le least_normal (E2 x)) (le (E2 x) largest) (rw E2-lowest at (E2-mono lowest x h)) (E2-at-most-largest x)

pub E2-positive : (x : Float) → T (le lowest x) → T (lt positive_zero (E2 x))
unfolding lt fits
E2-positive x h = lt-of-lt-of-le-f binary32 positive_zero least_normal (E2 x) tt tt (E2-number x) tt (rw E2-lowest at (E2-mono lowest x h))

-- ---- the bits from -126 up, and below 128, where N is n + 128
pub E2-bits : (x : Float) → T (le lowest x) → T (lt x limit) → E2 x ≡ of_bits binary32 ((moved 128 x / 2 ^ 24 - 2) * 2 ^ 23 + I (moved 128 x % 2 ^ 24) / 128)
E2-bits x h l =
    let a = high-of-le x h in
    let b = under-of-lt x l in
    at_mid x a.0 (omega arith) (omega arith)
    ∙ sym (made (moved 128 x / 2 ^ 24 - 2) (I (moved 128 x % 2 ^ 24) / 128) (omega arith) (q-low (moved 128 x % 2 ^ 24) (omega arith)) (q-high (moved 128 x % 2 ^ 24) (omega arith)))
