-- E2 as `exp2` makes it: +0 and the largest f32 at the ends, and between them the bits
-- (N - 2) * 2 ^ 23 + floor (I(F) / 128), a sum that carries the leading one of floor (I(F) / 128),
-- which has 24 digits, into the exponent's field. Assumes nothing.
use mathlib.Core.Path.{◌≡◌, refl, sym, ap, ◌∙◌}
use mathlib.Core.Bool.{false, not}
use Prim.Native.Nat.{ℕ, ◌+◌, ◌-◌, ◌*◌, ◌/◌, ◌%◌, ◌^◌, ◌≤◌, ◌<◌}
use native.Mathlib.Nat.{le_trans}
use native.Mathlib.Omega.{arith}
use borrow.Author.Tests.{lt-ltb, le-ltb}
use lib.Dec.{T, lit≤}
use lib.Ieee.{Float, nan, binary32, odd, of_bits, nan_bits, is_nan}
use lib.Ieee.Bits.{cond_no}
use Rattle.float32.specs.Value.{moved}
use Rattle.float32.proofs.Made.{made, made-no-nan}
use Rattle.power.specs.Table.{low_bits, P, I}
use Rattle.power.proofs.Rules.{P-rule}
use Rattle.power.specs.Power.{positive_zero, largest, power_at, power_of, E2}
use Rattle.power.proofs.Interpolated.{interp-low, interp-high}

pub nan_is : E2 nan ≡ positive_zero
unfolding E2 power_of is_nan
nan_is = refl

-- ---- the three ranges of N
module _ (N F : ℕ) where
  low-is : N < 2 → power_at low_bits P N F ≡ positive_zero
  unfolding power_at
  low-is h = rw (lt-ltb N 2 h)

  mid-is : 2 ≤ N → N < 256 → power_at low_bits P N F ≡ odd 24 false (I F / 128) (N - 2) 149
  unfolding power_at
  mid-is h l = rw (le-ltb N 2 h, lt-ltb N 256 l)

  high_is : 256 ≤ N → power_at low_bits P N F ≡ largest
  unfolding power_at
  high_is h = rw (le-ltb N 2 (le_trans (lit≤ tt) h), le-ltb N 256 h)

module _ (x : Float) (f : T (not (is_nan x))) where
  pub at : E2 x ≡ power_at low_bits P (moved 128 x / 2 ^ 24) (moved 128 x % 2 ^ 24)
  unfolding E2 power_of
  at = cond_no (is_nan x) positive_zero (power_at low_bits P (moved 128 x / 2 ^ 24) (moved 128 x % 2 ^ 24)) f

  pub at_low : moved 128 x / 2 ^ 24 < 2 → of_bits binary32 0 ≡ E2 x
  unfolding of_bits
  at_low h = sym (at ∙ low-is _ _ h)

  pub at_high : 256 ≤ moved 128 x / 2 ^ 24 → of_bits binary32 0x7f7fffff ≡ E2 x
  unfolding of_bits
  at_high h = sym (at ∙ high_is _ _ h)

  pub at_mid : 2 ≤ moved 128 x / 2 ^ 24 → moved 128 x / 2 ^ 24 < 256 → E2 x ≡ odd 24 false (I (moved 128 x % 2 ^ 24) / 128) (moved 128 x / 2 ^ 24 - 2) 149
  at_mid h l = at ∙ mid-is _ _ h l

-- y is the floor, and i what the code computed of its low bits
pub record Middle (y i : ℕ) : Type 0 where
  pub from : 2 * 2 ^ 24 ≤ y
  pub below : y < 256 * 2 ^ 24
  pub power : i ≡ I (y % 2 ^ 24)

module _ {y i : ℕ} (c : Middle y i) where
  bounds : (2 ^ 30 ≤ i) × (i < 2 ^ 31)
  bounds = rw c.power (interp-low P-rule (y % 2 ^ 24) (omega arith), interp-high P-rule (y % 2 ^ 24) (omega arith))

  whole : (2 ≤ y / 2 ^ 24) × (y / 2 ^ 24 < 256)
  whole = let l = c.from in let h = c.below in (omega arith, omega arith)

  shifted : (y / 2 ^ 24 - 2) * 2 ^ 23 % 2 ^ 64 ≡ (y / 2 ^ 24 - 2) * 2 ^ 23
  shifted = let h = whole in omega arith

  pub bits_fit : (y / 2 ^ 24 - 2) * 2 ^ 23 % 2 ^ 64 + i / 128 < 2 ^ 32
  bits_fit = let b = bounds in let h = whole in omega arith

  pub bits-no-nan : T (not (nan_bits binary32 ((y / 2 ^ 24 - 2) * 2 ^ 23 % 2 ^ 64 + i / 128)))
  bits-no-nan = let b = bounds in let h = whole in rw shifted (made-no-nan (y / 2 ^ 24 - 2) (i / 128) (omega arith) (omega arith) (omega arith))

  pub bits_are : of_bits binary32 ((y / 2 ^ 24 - 2) * 2 ^ 23 % 2 ^ 64 + i / 128) ≡ power_at low_bits P (y / 2 ^ 24) (y % 2 ^ 24)
  bits_are =
      let b = bounds in
      let h = whole in
      rw shifted
      (made (y / 2 ^ 24 - 2) (i / 128) (omega arith) (omega arith) (omega arith) ∙ ap (λ (z : ℕ). odd 24 false (z / 128) (y / 2 ^ 24 - 2) 149) c.power
      ∙ sym (mid-is (y / 2 ^ 24) (y % 2 ^ 24) h.0 h.1))
