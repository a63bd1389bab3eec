-- The floor of an f32 up to 2 ^ 23 in size in steps of 2 ^ -24, by the sum with 2 ^ 28 + 2 ^ 23:
-- between 2 ^ 28 and 2 ^ 29 a step is the last digit of an f64. Assumes nothing.
use mathlib.Core.Path.{◌≡◌, refl, ap, sym, ◌∙◌}
use mathlib.Core.Bool.{Bool, true, false, not, cond}
use Prim.Native.Nat.{ℕ, ◌+◌, ◌-◌, ◌*◌, ◌/◌, ◌^◌, ◌≤◌}
use native.Mathlib.Omega.{arith}
use mir.Val.{bool_byte}
use lib.Dec.{T, lit≤}
use lib.IntN.{pos}
use lib.Pow.{pow_pos}
use lib.Bits.{bit_and, and_mask}
use lib.Ieee.{Float, fin, Format, binary32, binary64, lt, neg, fits, is_nan, add, sub, to_bits}
use lib.Ieee.Scale.{overflow}
use Rattle.float_laws.specs.Units.{mag, sign, real, key, keyed, real-number}
use Rattle.float_laws.specs.Steps.{signed-real, signed-floor, number-no-nan}
use Rattle.float32.specs.Value.{moved}
use Rattle.float32.specs.Order.{within}
use Rattle.fixed_point.specs.Fixed.{farthest}
use Rattle.fixed_point.proofs.Wide.{floor_at-more, keyed-floor, moved-wide, wide-real, wide-size}

-- 2 ^ 28 + 2 ^ 23, which is 2 ^ 52 + 2 ^ 47 steps
abbrev larger : Float
larger = fin false 33 (pos 23)

abbrev many : ℕ
many = 2 ^ 52 + 2 ^ 47

larger-real : T (real binary64 larger)
unfolding fits
larger-real = tt

larger-key : key binary64 larger ≡ overflow binary64 + many * 2 ^ 1050
unfolding mag
larger-key = refl

module _ (x : Float) (F : T (fits binary32 x)) (w : T (within (neg farthest) farthest x)) where
  abbrev f : Format
  f = binary64

  finite : T (real f x)
  finite = wide-real 23 (lit≤ tt) x F w

  size_is : mag f x ≤ 2 ^ 47 * 2 ^ 1050
  size_is = wide-size 23 (lit≤ tt) x F w

  pub far-no-nan : T (not (is_nan (add binary64 x larger)))
  far-no-nan =
      number-no-nan f (add f x larger)
      (real-number f (add f x larger) (signed-real f x larger 1050 many (2 ^ 47) finite larger-real larger-key size_is (lit≤ tt) (lit≤ tt) (lit≤ tt)))

  floor-is : keyed (many * 2 ^ 1050) (sign x) (mag f x) / 2 ^ 1050 ≡ 2 ^ 52 + moved (2 ^ 23) x
  floor-is =
      keyed-floor (sign x) many (mag f x) (2 ^ 1050)
      ∙ floor_at-more (sign x) (2 ^ 52) (2 ^ 47) (mag f x) (2 ^ 1050) (pow_pos 1050) size_is
      ∙ ap (λ (z : ℕ). 2 ^ 52 + z) (sym (moved-wide (2 ^ 23) x finite))

  far-counted : bit_and (to_bits binary64 (add binary64 x larger)) (2 ^ 52 - 1) ≡ moved (2 ^ 23) x + bool_byte (lt x (sub binary64 (add binary64 x larger) larger))
  far-counted =
      and_mask (to_bits f (add f x larger)) 52
      ∙ signed-floor f x larger 1050 many (2 ^ 47) finite larger-real larger-key size_is (lit≤ tt) (lit≤ tt) (lit≤ tt)
      ∙ go _ (moved (2 ^ 23) x) (2 ^ 52) (lt x (sub f (add f x larger) larger)) floor-is
    where
      go : (t u H : ℕ) (b : Bool) → t ≡ H + u → t - H + cond b 1 0 ≡ u + bool_byte b
      go t u H true e = omega arith
      go t u H false e = omega arith

  pub far-room : bool_byte (lt x (sub binary64 (add binary64 x larger) larger)) ≤ bit_and (to_bits binary64 (add binary64 x larger)) (2 ^ 52 - 1)
  far-room = omega (arith, far-counted)

  pub far-steps-are : bit_and (to_bits binary64 (add binary64 x larger)) (2 ^ 52 - 1) - bool_byte (lt x (sub binary64 (add binary64 x larger) larger)) ≡ moved (2 ^ 23) x
  far-steps-are = omega (arith, far-counted)
