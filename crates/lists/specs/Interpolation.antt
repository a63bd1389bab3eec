-- Linear interpolation, with floor, between the entries of a table of whole numbers, over steps of
-- a power of two. Assumes nothing.
use Rattle.std.specs.Prelude.{◌≡◌, refl, ◌⊎◌, Bool, true, false, not, ℕ, ◌+◌, ◌-◌, ◌*◌, ◌/◌, ◌%◌, ◌^◌, ◌≤◌, ◌<◌, T, leb}
use Rattle.std.proofs.Common.{ap, inl, inr, le_trans, le_of_eq, le_of_lt, lt_of_le_of_lt, mul-le-mul, mul-le-mul_left, mul-div_cancel, div-lt_iff_lt-mul, arith, leb→le, lit<, pow_pos, pow_mono}
use Rattle.std.proofs.Math.Nat.{mul-lt-mul_of_pos_left}
use Rattle.std.proofs.Math.Dec.{nleb→lt}
use Rattle.std.proofs.lemmas.Nat.{shr_le, and_mask}
use Rattle.std.proofs.Math.Pow.{shr_mono, split}
use Rattle.std.specs.Int.Bits.{bit_and, mask_lt}

-- I(F) for a table p of 2 ^ (24 - w) steps: h is F without its w low bits, and r those bits
unfoldable pub interp : ℕ → (ℕ → ℕ) → ℕ → ℕ
interp w p F = p (F / 2 ^ w) + (p (F / 2 ^ w + 1) - p (F / 2 ^ w)) * (F % 2 ^ w) / 2 ^ w

-- ---- a step's part of its rise, and sums that stay in the step
pub part-le : (D r w : ℕ) → r ≤ 2 ^ w → D * r / 2 ^ w ≤ D
part-le D r w h = le_trans (shr_mono w (mul-le-mul_left D h)) (le_of_eq (mul-div_cancel D (pow_pos w)))

pub part-lt : (D r w : ℕ) → 0 < D → r < 2 ^ w → D * r / 2 ^ w < D
part-lt D r w z h = (div-lt_iff_lt-mul (pow_pos w)).1 (mul-lt-mul_of_pos_left h z)

pub interp-is : (w : ℕ) (p : ℕ → ℕ) (F : ℕ) → interp w p F ≡ p (F / 2 ^ w) + (p (F / 2 ^ w + 1) - p (F / 2 ^ w)) * (F % 2 ^ w) / 2 ^ w
unfolding interp
interp-is w p F = refl

pub between : (a b c : ℕ) → a ≤ b → c ≤ b - a → a + c ≤ b
between a b c h k = omega arith

pub between-lt : (a b c : ℕ) → c < b - a → a + c < b
between-lt a b c k = omega arith

pub low-le : (F G w : ℕ) → F ≤ G → F / 2 ^ w ≡ G / 2 ^ w → F % 2 ^ w ≤ G % 2 ^ w
low-le F G w h e =
    let a = split F w in
    let b = split G w in
    let c : F / 2 ^ w * 2 ^ w ≡ G / 2 ^ w * 2 ^ w = ap (λ (x : ℕ). x * 2 ^ w) e in
    omega arith

-- ---- a step as the code computes it, for w low bits
module _ (w : ℕ) (p : ℕ → ℕ) (F a b : ℕ) (W : w ≤ 16) (ha : a ≡ p (F / 2 ^ w)) (hb : b ≡ p (F / 2 ^ w + 1)) (le : a ≤ b) (hi : b ≤ 2147483648) where
  product : (b - a) * bit_and F (2 ^ w - 1) ≤ 2147483648 * 65536
  product = mul-le-mul {n₁ = b - a} {m₁ = bit_and F (2 ^ w - 1)} {n₂ = 2147483648} {m₂ = 65536} (omega arith) (le_trans (le_of_lt (mask_lt F w)) (pow_mono W))

  pub product-fits : (b - a) * bit_and F (2 ^ w - 1) < 18446744073709551616
  product-fits = lt_of_le_of_lt product (lit< tt)

  pub sum_fits : a + (b - a) * bit_and F (2 ^ w - 1) / 2 ^ w < 18446744073709551616
  sum_fits = let u = le_trans (shr_le ((b - a) * bit_and F (2 ^ w - 1)) w) product in omega arith

  pub interpolated : a + (b - a) * bit_and F (2 ^ w - 1) / 2 ^ w ≡ interp w p F
  unfolding interp
  interpolated = rw (and_mask F w, ha, hb)

pub here_or_on : (i n : ℕ) → (i < n) ⊎ (n ≤ i)
here_or_on i n = go (leb n i) (leb→le n i) (nleb→lt n i)
  where
    go : (b : Bool) → (T b → n ≤ i) → (T (not b) → i < n) → (i < n) ⊎ (n ≤ i)
    go true f g = inr (f tt)
    go false f g = inl (g tt)
