-- The pan law: for every pan in -1..1 the two balances, cosine and sine of (pan + 1)·π/4 times √2,
-- rounded at each operation, are not negative, and their squares add to 2 within 2 ^ -14.
-- The angle stays in the first quarter of the turn (PanAngle.antt); there sine and cosine are near
-- the circle (Circle.antt), and each product is rounded once (Balances.antt). Assumes nothing.
use mathlib.Core.Path.{◌≡◌, refl, sym, ap, ◌∙◌, subst}
use mathlib.Core.Logic.{inl, inr}
use mathlib.Core.Bool.{Bool, true, false}
use Prim.Native.Nat.{ℕ, ◌-◌, ◌*◌, ◌/◌, ◌^◌, ◌≤◌, ◌<◌}
use native.Mathlib.Nat.{eq-zero-or-pos, zero-mul}
use native.Mathlib.Omega.{arith}
use lib.Dec.{T, lit<, lit≤}
use lib.IntN.{pos}
use lib.Ieee.{Float, fin, Format, binary32, low, of_bits, neg, add, mul, le, lt, eq, fits, sum, round, size, units, odd, span, climb}
use lib.Ieee.Scale.{overflow}
use Rattle.lists.specs.Interpolation.{interp}
use Rattle.float32.specs.Constants.{sqrt_2}
use Rattle.float32.specs.Value.{moved}
use Rattle.float_laws.specs.Units.{mag, sign, number, real, keyed, mag-below, mag-le, eq→key, unique}
use Rattle.float_laws.specs.Round.{rnd, mag-round, rnd-zero}
use Rattle.float_laws.specs.Ops.{mul-round}
use Rattle.float_laws.specs.Error.{Relative, rnd-relative}
use Rattle.float_laws.specs.Bounds.{one}
use Rattle.float_laws.specs.Rise.{Upto, upto-mul}
use Rattle.sine.specs.Table.{sine_table, R}
use Rattle.sine.specs.Sine.{U, turned, wave, sin_of, cos_of}
use Rattle.sine.proofs.Circle.{near-circle}
use Rattle.sine.proofs.Range.{Level, sin-first-quarter, cos-first-quarter}
use Rattle.sine.proofs.PanAngle.{pan_angle, pan-place}
use Rattle.sine.proofs.Balances.{TimesRoot, zero-times-root, times-root, product-normal, AddToTwo, balances-add-to-two}

abbrev pub left_balance : Float → Float
left_balance pan = mul binary32 (cos_of (pan_angle pan)) sqrt_2

abbrev pub right_balance : Float → Float
right_balance pan = mul binary32 (sin_of (pan_angle pan)) sqrt_2

-- ---- a balance, from a sine or cosine of the first quarter
sqrt-upto : Upto binary32 1 sqrt_2
unfolding of_bits fits le lt eq mag
sqrt-upto = record { is_real = tt; low = tt; high = lit≤ tt }

sqrt-size : mag binary32 sqrt_2 * 2 ^ 23 ≡ 11863283 * 2 ^ low binary32
unfolding of_bits mag
sqrt-size = refl

none : (m n L : ℕ) → m * 2 ^ 24 ≡ n * L → n ≡ 0 → m ≡ 0
none m n L e z = let k : n * L ≡ 0 = ap (λ (i : ℕ). i * L) z ∙ zero-mul L in omega arith

module _ (x : Float) (n : ℕ) (l : Level x n) where
  balance-upto : Upto binary32 1 (mul binary32 x sqrt_2)
  balance-upto = upto-mul binary32 0 1 x sqrt_2 (lit≤ tt) l.upto sqrt-upto

  balance-size : TimesRoot (2 ^ low binary32) n (mag binary32 (mul binary32 x sqrt_2))
  balance-size =
      subst (λ (r : ℕ). TimesRoot L n r) (sym is)
      (elim (eq-zero-or-pos n) [ inl z ↦ zero-times-root L n r z (zero z) | inr p ↦ times-root L a b n r (lit< tt) l.size sqrt-size (relative p) ])
    where
      L : ℕ
      L = 2 ^ low binary32

      a : ℕ
      a = mag binary32 x

      b : ℕ
      b = mag binary32 sqrt_2

      r : ℕ
      r = rnd binary32 (a * b) (L * L)

      is : mag binary32 (mul binary32 x sqrt_2) ≡ r
      is = ap (mag binary32) (mul-round binary32 x sqrt_2 l.upto.is_real sqrt-upto.is_real) ∙ mag-round binary32 _ (a * b) (L * L)

      zero : n ≡ 0 → r ≡ 0
      zero z = ap (λ (i : ℕ). rnd binary32 (i * b) (L * L)) (none a n L l.size z) ∙ ap (λ (i : ℕ). rnd binary32 i (L * L)) (zero-mul b) ∙ rnd-zero binary32 (L * L) (lit< tt)

      finite : r < overflow binary32
      finite = subst (λ (i : ℕ). i < overflow binary32) is (mag-below binary32 (mul binary32 x sqrt_2) balance-upto.is_real)

      relative : 0 < n → Relative (2 ^ 23) (a * b * L) (L * L) r
      relative p = rnd-relative binary32 (a * b) (L * L) (lit< tt) finite (product-normal L a b n r (lit< tt) l.size sqrt-size (lit≤ tt) p)

-- ---- the law: each balance is finite and not negative (and at most 2), and their squares add to 2
module _ (pan : Float) (p : T (real binary32 pan)) (low : T (le (neg one) pan)) (high : T (le pan one)) where
  cosine : Level (cos_of (pan_angle pan)) (interp 14 R (2 ^ 22 - U (pan_angle pan)) / 64)
  cosine = cos-first-quarter (pan_angle pan) (pan-place pan p low high)

  sine : Level (sin_of (pan_angle pan)) (interp 14 R (U (pan_angle pan)) / 64)
  sine = sin-first-quarter (pan_angle pan) (pan-place pan p low high)

  pub left-not-negative : Upto binary32 1 (left_balance pan)
  left-not-negative = balance-upto (cos_of (pan_angle pan)) _ cosine

  pub right-not-negative : Upto binary32 1 (right_balance pan)
  right-not-negative = balance-upto (sin_of (pan_angle pan)) _ sine

  pub pan-law : AddToTwo (2 ^ 149) (mag binary32 (left_balance pan)) (mag binary32 (right_balance pan))
  pan-law =
      balances-add-to-two (2 ^ 149) _ _ _ _ (near-circle (U (pan_angle pan)) (pan-place pan p low high))
      (balance-size (cos_of (pan_angle pan)) _ cosine) (balance-size (sin_of (pan_angle pan)) _ sine)

-- ---- the arms of the balance: at the centre both are 1; hard right and hard left the far side is
-- 0 by the same formula, and the near side √2
pub pan-law-at-centre : AddToTwo (2 ^ 149) (mag binary32 one) (mag binary32 one)
unfolding mag
pan-law-at-centre = record { low = lit≤ tt; high = lit≤ tt }

hard-right : (left_balance one ≡ fin false 0 (pos 0)) × (right_balance one ≡ sqrt_2)
unfolding sin_of cos_of wave turned U moved interp sine_table of_bits mul add sum neg round size units odd span climb
hard-right = (refl, refl)

hard-left : (left_balance (neg one) ≡ sqrt_2) × (right_balance (neg one) ≡ fin false 0 (pos 0))
unfolding sin_of cos_of wave turned U moved interp sine_table of_bits mul add sum neg round size units odd span climb
hard-left = (refl, refl)

-- what equals a number that is not zero is that number
same_keys : (K m n : ℕ) (s t : Bool) → m ≤ K → n ≤ K → 0 < n → keyed K s m ≡ keyed K t n → (s ≡ t) × (m ≡ n)
same_keys K m n false false a b h e = (refl, omega arith)
same_keys K m n false true a b h e = absurd (omega arith)
same_keys K m n true false a b h e = absurd (omega arith)
same_keys K m n true true a b h e = (refl, omega arith)

eq-same : (f : Format) (x z : Float) → T (number f x) → T (number f z) → 0 < mag f z → T (eq x z) → x ≡ z
eq-same f x z p q h e =
    let k = same_keys (overflow f) (mag f x) (mag f z) (sign x) (sign z) (mag-le f x p) (mag-le f z q) h (eq→key f x z p q e) in
    unique f x z p q k.0 k.1

module _ (pan : Float) (p : T (number binary32 pan)) where
  pub balances-hard-right : T (eq pan one) → (left_balance pan ≡ fin false 0 (pos 0)) × (right_balance pan ≡ sqrt_2)
  unfolding mag fits
  balances-hard-right e = rw (eq-same binary32 pan one p tt (lit< tt) e) hard-right

  pub balances-hard-left : T (eq pan (neg one)) → (left_balance pan ≡ sqrt_2) × (right_balance pan ≡ fin false 0 (pos 0))
  unfolding mag fits neg
  balances-hard-left e = rw (eq-same binary32 pan (neg one) p tt (lit< tt) e) hard-left
