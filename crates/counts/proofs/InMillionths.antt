-- A float in whole millionths. From its digits and exponent: the value is mant * 2 ^ (expo - 149),
-- so that its millionths are a shift of mant * 1000000. For a caller:
-- millionths / 1000000 ≤ x < (millionths + 1) / 1000000, for every x from 0 up to 2 ^ 44. Assumes
-- nothing.
use mathlib.Core.Path.{◌≡◌, refl, sym, ap, ◌∙◌}
use mathlib.Core.Bool.{true, false}
use Prim.Native.Nat.{ℕ, suc, ◌-◌, ◌*◌, ◌/◌, ◌%◌, ◌^◌, ◌≤◌, ◌<◌, min}
use native.Mathlib.Nat.{le_trans, le_of_eq, min-eq_left, min-eq_right, min-le_left, mul_right_comm, mul-le-mul, mul-le-mul_right, div-eq_of_lt, mod-eq_of_lt}
use native.Mathlib.Omega.{arith}
use lib.Dec.{lit<, lit≤}
use lib.Pow.{pow_pos, pow_mono}
use lib.Ieee.{Float, nan}
use lib.Ieee.Nearest.{div_same}
use Rattle.float32.specs.Value.{above, below, negative, Decoded}
use Rattle.counts.specs.Counts.{millionths}
use Rattle.float32.proofs.Floor.{below-pos}
use Rattle.counts.proofs.Whole.{floor-at-most, floor-next, whole_le, whole-mono, whole-one}
use Rattle.counts.proofs.Counted.{low_value, high_value}

pub millionths-nan : millionths nan ≡ 0
unfolding millionths
millionths-nan = refl

pub millionths-negative : (x : Float) → negative x ≡ true → millionths x ≡ 0
unfolding millionths
millionths-negative x e = rw e

module _ (x : Float) (mant expo : ℕ) (D : Decoded x false mant expo) where
  -- of the value as another fraction
  millionths-is : (n d : ℕ) → 0 < d → above x * d ≡ n * below x → millionths x ≡ min (n * 1000000 / d) 17592186044416000000
  unfolding millionths
  millionths-is n d z e =
      let same : above x * 1000000 * d ≡ n * 1000000 * below x = mul_right_comm (above x) 1000000 d ∙ ap (λ (k : ℕ). k * 1000000) e ∙ mul_right_comm n (below x) 1000000 in
      rw D.sign (ap (λ (k : ℕ). min k 17592186044416000000) (div_same (above x * 1000000) (below x) (n * 1000000) d (below-pos x) z same))

  -- the binary point is left of the last digit
  pub millionths-low : expo < 149 → millionths x ≡ mant * 1000000 / 2 ^ (149 - expo)
  millionths-low h =
      let w : mant * 1000000 / 2 ^ (149 - expo) ≤ mant * 1000000 = whole_le false (mant * 1000000) (2 ^ (149 - expo)) (pow_pos (149 - expo)) in
      let m = D.small in
      millionths-is mant (2 ^ (149 - expo)) (pow_pos (149 - expo)) (low_value false x mant expo D h) ∙ min-eq_left (omega arith)

  -- and every digit to the right of it
  pub millionths-none : expo < 105 → millionths x ≡ 0
  millionths-none h =
      let p : 2 ^ 45 ≤ 2 ^ (149 - expo) = pow_mono {i = 45} {j = 149 - expo} (omega arith) in
      let m = D.small in
      millionths-low (omega arith) ∙ div-eq_of_lt (omega arith)

  -- the last digit is left of the binary point
  millionths-shifted : 149 ≤ expo → millionths x ≡ min (mant * 1000000 * 2 ^ (expo - 149)) 17592186044416000000
  millionths-shifted h =
      millionths-is (mant * 2 ^ (expo - 149)) 1 (lit< tt) (high_value false x mant expo D h)
      ∙ ap (λ (k : ℕ). min k 17592186044416000000) (whole-one false (mant * 2 ^ (expo - 149) * 1000000) ∙ mul_right_comm mant (2 ^ (expo - 149)) 1000000)

  pub millionths-high : 149 ≤ expo → expo < 170 → mant * 1000000 * 2 ^ (expo - 149) % 18446744073709551616 ≡ millionths x
  millionths-high h l =
      let p : 2 ^ (expo - 149) ≤ 2 ^ 20 = pow_mono {i = expo - 149} {j = 20} (omega arith) in
      let m = D.small in
      let q : mant * 1000000 * 2 ^ (expo - 149) ≤ 16777215000000 * 1048576 = mul-le-mul {n₂ = 16777215000000} (omega arith) p in
      mod-eq_of_lt (omega arith) ∙ sym (millionths-shifted h ∙ min-eq_left (omega arith))

  pub millionths-top : 170 ≤ expo → millionths x ≡ 17592186044416000000
  millionths-top h =
      let p : 2 ^ 21 ≤ 2 ^ (expo - 149) = pow_mono {i = 21} {j = expo - 149} (omega arith) in
      let f = D.full (omega arith) in
      let m : 8388608000000 ≤ mant * 1000000 = omega arith in
      let q : 8388608000000 * 2097152 ≤ mant * 1000000 * 2 ^ (expo - 149) = mul-le-mul m p in
      millionths-shifted (omega arith) ∙ min-eq_right (omega arith)

-- ---- of an x that is not negative, as the fraction above x / below x
module _ (x : Float) (sign : negative x ≡ false) where
  pub millionths-at-most : millionths x * below x ≤ above x * 1000000
  unfolding millionths
  millionths-at-most = rw sign (le_trans (mul-le-mul_right (below x) (min-le_left (above x * 1000000 / below x) 17592186044416000000)) (floor-at-most (above x * 1000000) (below x)))

  pub millionths-next : above x ≤ 17592186044416 * below x → above x * 1000000 < suc (millionths x) * below x
  unfolding millionths
  millionths-next room = rw (sign, min-eq_left fits) (floor-next (above x * 1000000) (below x) (below-pos x))
    where
      scaled : above x * 1000000 * 1 ≤ 17592186044416000000 * below x
      scaled = omega arith

      fits : above x * 1000000 / below x ≤ 17592186044416000000
      fits = le_trans (whole-mono false (above x * 1000000) (below x) 17592186044416000000 1 (below-pos x) (lit≤ tt) scaled) (le_of_eq (whole-one false 17592186044416000000))
