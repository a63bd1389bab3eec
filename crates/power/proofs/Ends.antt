-- E2 beyond its ends, in document 01's words: below -126 it is 0, from 128 up the largest finite
-- f32, of a NaN 0. Assumes nothing.
use mathlib.Core.Path.{◌≡◌, refl, sym, ◌∙◌}
use mathlib.Core.Bool.{true, false, not}
use Prim.Native.Nat.{ℕ, ◌*◌, ◌^◌, ◌≤◌, ◌<◌}
use native.Mathlib.Nat.{div-lt_iff_lt-mul, le-div_iff_mul-le}
use native.Mathlib.Omega.{arith}
use lib.Dec.{T, ltb→lt, lit≤}
use lib.IntN.{ℤ, pos}
use lib.Ieee.{Float, nan, inf, fin, up, down, le, lt, is_nan, of_bits, binary32}
use lib.Ieee.Fits.{down_pos}
use Rattle.float_laws.specs.Signs.{ord-of-le}
use Rattle.float32.specs.Value.{moved}
use Rattle.power.specs.Power.{positive_zero, largest, lowest, limit, E2}
use Rattle.power.proofs.Made.{nan_is, at_low, at_high}

zero_is : of_bits binary32 0 ≡ positive_zero
unfolding of_bits
zero_is = refl

largest-is : of_bits binary32 0x7f7fffff ≡ largest
unfolding of_bits
largest-is = refl

-- ---- the floor against the ends
module _ (m : ℕ) (e : ℤ) where
  neg_low : 126 * down e < m * up e → moved 128 (fin true m e) < 2 * 2 ^ 24
  unfolding moved
  neg_low h = let z = down_pos e in (div-lt_iff_lt-mul z).1 (omega arith)

  neg-high : m * up e ≤ 126 * down e → 2 * 2 ^ 24 ≤ moved 128 (fin true m e)
  unfolding moved
  neg-high h = (le-div_iff_mul-le (down_pos e)).1 (omega arith)

  neg-under : moved 128 (fin true m e) < 256 * 2 ^ 24
  unfolding moved
  neg-under = let z = down_pos e in (div-lt_iff_lt-mul z).1 (omega arith)

  pub pos-high : 2 * 2 ^ 24 ≤ moved 128 (fin false m e)
  unfolding moved
  pos-high = (le-div_iff_mul-le (down_pos e)).1 (omega arith)

  pos-under : m * up e < 128 * down e → moved 128 (fin false m e) < 256 * 2 ^ 24
  unfolding moved
  pos-under h = let z = down_pos e in (div-lt_iff_lt-mul z).1 (omega arith)

  pos-top : 128 * down e ≤ m * up e → 256 * 2 ^ 24 ≤ moved 128 (fin false m e)
  unfolding moved
  pos-top h = (le-div_iff_mul-le (down_pos e)).1 (omega arith)

-- ---- what the comparisons say
pub low-of-lt : (x : Float) → T (lt x lowest) → T (not (is_nan x)) × (moved 128 x < 2 * 2 ^ 24)
unfolding lt is_nan moved
low-of-lt nan h = absurd h
low-of-lt (inf true) h = (tt, omega arith)
low-of-lt (inf false) h = absurd h
low-of-lt (fin false m e) h = absurd h
low-of-lt (fin true m e) h = (tt, neg_low m e (let g = ltb→lt (126 * down e) (m * up e * 1) h in omega arith))

pub high-of-le : (x : Float) → T (le lowest x) → T (not (is_nan x)) × (2 * 2 ^ 24 ≤ moved 128 x)
unfolding le is_nan moved
high-of-le nan h = absurd h
high-of-le (inf true) h = absurd h
high-of-le (inf false) h = (tt, lit≤ tt)
high-of-le (fin false m e) h = (tt, pos-high m e)
high-of-le (fin true m e) h = (tt, neg-high m e (let g = ord-of-le true 63 (pos 1) true m e h in omega arith))

pub under-of-lt : (x : Float) → T (lt x limit) → moved 128 x < 256 * 2 ^ 24
unfolding lt moved
under-of-lt nan h = absurd h
under-of-lt (inf true) h = omega arith
under-of-lt (inf false) h = absurd h
under-of-lt (fin true m e) h = neg-under m e
under-of-lt (fin false m e) h = pos-under m e (let g = ltb→lt (m * up e * 1) (128 * down e) h in omega arith)

top-of-le : (x : Float) → T (le limit x) → T (not (is_nan x)) × (256 * 2 ^ 24 ≤ moved 128 x)
unfolding le is_nan moved
top-of-le nan h = absurd h
top-of-le (inf true) h = absurd h
top-of-le (inf false) h = (tt, lit≤ tt)
top-of-le (fin true m e) h = absurd (clash (ord-of-le false 1 (pos 7) true m e h).0)
  where
    clash : 128 * down e ≡ 0 → ⊥
    clash k = let z = down_pos e in omega arith
top-of-le (fin false m e) h = (tt, pos-top m e (let g = ord-of-le false 1 (pos 7) false m e h in omega arith))

-- ---- beyond the ends
pub E2-nan : E2 nan ≡ positive_zero
E2-nan = nan_is

pub E2-below : (x : Float) → T (lt x lowest) → E2 x ≡ positive_zero
E2-below x h = let a = low-of-lt x h in sym (at_low x a.0 (omega arith)) ∙ zero_is

pub E2-from : (x : Float) → T (le limit x) → E2 x ≡ largest
E2-from x h = let a = top-of-le x h in sym (at_high x a.0 (omega arith)) ∙ largest-is
