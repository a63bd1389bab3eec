-- A float's count from its sign, digits and exponent: the value is mant * 2 ^ (expo - 149), so that
-- its whole part is a shift of the digits. Assumes nothing.
use mathlib.Core.Path.{◌≡◌, refl, sym, ap, ◌∙◌}
use mathlib.Core.Bool.{Bool, true, false}
use Prim.Native.Nat.{ℕ, ◌+◌, ◌-◌, ◌*◌, ◌%◌, ◌^◌, ◌≤◌, ◌<◌, min}
use native.Mathlib.Nat.{min-eq_left, min-eq_right, mul_assoc, mul_right_comm, mul-one, mul-le-mul, eq_of_mul-eq-mul_right, mod-eq_of_lt}
use native.Mathlib.Omega.{arith}
use lib.Dec.{lit<}
use lib.Pow.{pow_pos, pow-add, pow_mono}
use lib.Ieee.{Float, nan, inf, fin, to_unsigned}
use lib.Ieee.Digits.{back}
use Rattle.float32.specs.Value.{above, below, negative, Decoded}
use Rattle.counts.specs.Counts.{whole, count_of, floor_count}
use Rattle.float32.proofs.Floor.{below-pos}
use Rattle.counts.proofs.Whole.{whole_same, whole-capped, whole-one, whole_le}

pub count-nan : (up : Bool) → count_of up nan ≡ 0
unfolding count_of
count-nan false = refl
count-nan true = refl

pub count-negative : (up : Bool) (x : Float) → negative x ≡ true → count_of up x ≡ 0
unfolding count_of
count-negative up x e = rw e

-- down, it is Rust's `as` itself, which drops the fraction
pub floor-is-cast : (x : Float) → floor_count x ≡ to_unsigned 64 x
unfolding count_of to_unsigned
floor-is-cast nan = refl
floor-is-cast (inf true) = refl
floor-is-cast (inf false) = refl
floor-is-cast (fin true m e) = refl
floor-is-cast (fin false m e) = refl

module _ (up : Bool) (x : Float) (mant expo : ℕ) (D : Decoded x false mant expo) where
  count-is : (n d : ℕ) → 0 < d → above x * d ≡ n * below x → count_of up x ≡ min (whole up n d) 18446744073709551615
  unfolding count_of
  count-is n d z e = rw D.sign (ap (λ (k : ℕ). min k 18446744073709551615) (whole_same up (above x) (below x) n d (below-pos x) z e))

  -- the binary point is left of the last digit
  pub low_value : expo < 149 → above x * 2 ^ (149 - expo) ≡ mant * below x
  low_value h =
      let b : 149 - expo + expo ≡ 149 = omega arith in
      let e : 2 ^ (149 - expo) * 2 ^ expo ≡ 2 ^ 149 = sym (pow-add 2 (149 - expo) expo) ∙ ap (λ (k : ℕ). 2 ^ k) b in
      eq_of_mul-eq-mul_right (2 ^ expo) (pow_pos expo) (above x * 2 ^ (149 - expo)) (mant * below x)
      (mul_assoc (above x) (2 ^ (149 - expo)) (2 ^ expo) ∙ ap (λ (k : ℕ). above x * k) e ∙ D.value ∙ mul_right_comm mant (2 ^ expo) (below x))

  pub count_low : expo < 149 → count_of up x ≡ whole up mant (2 ^ min (149 - expo) 31)
  count_low h =
      count-is mant (2 ^ (149 - expo)) (pow_pos (149 - expo)) (low_value h)
      ∙ ap (λ (k : ℕ). min k 18446744073709551615) (sym (whole-capped up mant (149 - expo) (let m = D.small in omega arith)))
      ∙ min-eq_left (let m = D.small in let w = whole_le up mant (2 ^ min (149 - expo) 31) (pow_pos (min (149 - expo) 31)) in omega arith)

  -- the last digit is left of the binary point
  pub high_value : 149 ≤ expo → above x * 1 ≡ mant * 2 ^ (expo - 149) * below x
  high_value h =
      let e : 2 ^ expo ≡ 2 ^ (expo - 149) * 2 ^ 149 = ap (λ (k : ℕ). 2 ^ k) (sym (back expo 149 h)) ∙ pow-add 2 (expo - 149) 149 in
      mul-one (above x)
      ∙ eq_of_mul-eq-mul_right (2 ^ 149) (pow_pos 149) (above x) (mant * 2 ^ (expo - 149) * below x)
      (D.value ∙ ap (λ (k : ℕ). mant * k * below x) e ∙ ap (λ (k : ℕ). k * below x) (sym (mul_assoc mant (2 ^ (expo - 149)) (2 ^ 149))) ∙ mul_right_comm (mant * 2 ^ (expo - 149)) (2 ^ 149) (below x))

  count-shifted : 149 ≤ expo → count_of up x ≡ min (mant * 2 ^ (expo - 149)) 18446744073709551615
  count-shifted h = count-is (mant * 2 ^ (expo - 149)) 1 (lit< tt) (high_value h) ∙ ap (λ (k : ℕ). min k 18446744073709551615) (whole-one up (mant * 2 ^ (expo - 149)))

  pub count-high : 149 ≤ expo → expo < 190 → mant * 2 ^ (expo - 149) % 18446744073709551616 ≡ count_of up x
  count-high h l =
      let p : 2 ^ (expo - 149) ≤ 2 ^ 40 = pow_mono {i = expo - 149} {j = 40} (omega arith) in
      let m = D.small in
      let q : mant * 2 ^ (expo - 149) ≤ 16777215 * 1099511627776 = mul-le-mul {n₂ = 16777215} (omega arith) p in
      mod-eq_of_lt (omega arith) ∙ sym (count-shifted h ∙ min-eq_left (omega arith))

  pub count-top : 190 ≤ expo → 18446744073709551615 ≡ count_of up x
  count-top h =
      let p : 2 ^ 41 ≤ 2 ^ (expo - 149) = pow_mono {i = 41} {j = expo - 149} (omega arith) in
      let m = D.full (omega arith) in
      let q : 8388608 * 2199023255552 ≤ mant * 2 ^ (expo - 149) = mul-le-mul m p in
      sym (count-shifted (omega arith) ∙ min-eq_right (omega arith))
