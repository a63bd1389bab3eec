-- An f32 between two opposite powers of two as an f64: it is a finite value, of at most that size,
-- and its floor in steps of 2 ^ -24 is one of whole numbers of f64's units. Assumes nothing.
use mathlib.Core.Path.{◌≡◌, refl, sym, ap, ◌∙◌}
use mathlib.Core.Bool.{Bool, true, false, not}
use Prim.Native.Nat.{ℕ, ◌+◌, ◌-◌, ◌*◌, ◌/◌, ◌^◌, ◌≤◌, ◌<◌}
use native.Mathlib.Nat.{le_trans, le_of_eq, mul_assoc, add-mul, mul-add-div_right}
use native.Mathlib.Omega.{arith}
use lib.Dec.{T}
use lib.Pow.{pow_pos}
use lib.Ieee.{Float, nan, inf, fin, Format, binary32, binary64, up, down, low, neg, fits, is_nan}
use lib.Ieee.Fits.{fits_widens}
use lib.Ieee.Scale.{overflow}
use Rattle.float_laws.specs.Units.{mag, sign, real, key, keyed, real-number, mag-exact, mag-below, le→key}
use Rattle.float_laws.specs.Power.{power, mag-power, real-power}
use Rattle.float_laws.specs.Mono.{real-neg, key-neg}
use Rattle.float_laws.specs.Steps.{number-no-nan}
use Rattle.float32.specs.Value.{floor_at, moved}
use Rattle.float32.specs.Order.{within}
use Rattle.float32.proofs.Floor.{below-pos, floor_at-same}
use Rattle.float32.proofs.Limits.{within_low, within-high, within_real}

-- ---- floors with a larger base
pub floor_at-more : (s : Bool) (D C a b : ℕ) → 0 < b → a ≤ C * b → floor_at s (D + C) a b ≡ D + floor_at s C a b
floor_at-more false D C a b z h = ap (λ (x : ℕ). (x + a) / b) (add-mul D C b) ∙ ap (λ (x : ℕ). x / b) (over (D * b) (C * b)) ∙ mul-add-div_right z D (C * b + a)
  where
    over : (X Y : ℕ) → X + Y + a ≡ X + (Y + a)
    over X Y = omega arith
floor_at-more true D C a b z h = ap (λ (x : ℕ). (x - a) / b) (add-mul D C b) ∙ ap (λ (x : ℕ). x / b) (over (D * b) (C * b) h) ∙ mul-add-div_right z D (C * b - a)
  where
    over : (X Y : ℕ) → a ≤ Y → X + Y - a ≡ X + (Y - a)
    over X Y l = omega arith

pub keyed-floor : (s : Bool) (C a b : ℕ) → keyed (C * b) s a / b ≡ floor_at s C a b
keyed-floor false C a b = refl
keyed-floor true C a b = refl

-- ---- the floor in steps
-- x * 2 ^ 24 is its size in f64's units over 2 ^ 1050
pub moved-wide : (c : ℕ) (y : Float) → T (real binary64 y) → moved c y ≡ floor_at (sign y) (c * 2 ^ 24) (mag binary64 y) (2 ^ 1050)
unfolding moved
moved-wide c nan p = absurd p
moved-wide c (inf s) p = absurd p
moved-wide c (fin s m e) p =
    floor_at-same s (c * 2 ^ 24) (m * up e * 2 ^ 24) (down e) (mag binary64 (fin s m e)) (2 ^ 1050) (below-pos (fin s m e)) (pow_pos 1050)
    (mul_assoc (m * up e) (2 ^ 24) (2 ^ 1050) ∙ sym (mag-exact binary64 s m e p))

-- ---- an x from -2 ^ a to 2 ^ a
module _ (a : ℕ) (A : a ≤ 1023) (x : Float) (F : T (fits binary32 x)) (w : T (within (neg (power a)) (power a) x)) where
  abbrev f : Format
  f = binary64

  top : T (real f (power a))
  top = real-power f a A

  bottom : T (real f (neg (power a)))
  bottom = real-neg f (power a) top

  pub wide-real : T (real binary64 x)
  wide-real = within_real (neg (power a)) (power a) x w f (fits_widens x F) bottom top

  pub wide-no-nan : T (not (is_nan x))
  wide-no-nan = number-no-nan f x (real-number f x wide-real)

  pub wide-size : mag binary64 x ≤ 2 ^ a * 2 ^ 1074
  wide-size =
      bound (overflow f) (sign x) (mag f x) (2 ^ a * 2 ^ low f) (key f (power a)) (key f (neg (power a))) (mag-below f x wide-real)
      (ap (λ (z : ℕ). overflow f + z) (mag-power f a))
      (key-neg f (power a) (real-number f (power a) top))
      (le→key f (neg (power a)) x (real-number f (neg (power a)) bottom) (real-number f x wide-real) (within_low (neg (power a)) (power a) x w))
      (le→key f x (power a) (real-number f x wide-real) (real-number f (power a) top) (within-high (neg (power a)) (power a) x w))
    where
      bound : (K : ℕ) (s : Bool) (n b h l : ℕ) → n < K → h ≡ K + b → l ≡ K + K - h → l ≤ keyed K s n → keyed K s n ≤ h → n ≤ b
      bound K false n b h l k H L p q = omega arith
      bound K true n b h l k H L p q = omega arith

  -- moved up by more, the floor is that much larger
  pub moved_more : (D : ℕ) → moved (D + 2 ^ a) x ≡ D * 2 ^ 24 + moved (2 ^ a) x
  moved_more D =
      moved-wide (D + 2 ^ a) x wide-real
      ∙ ap (λ (c : ℕ). floor_at (sign x) c (mag f x) (2 ^ 1050)) (add-mul D (2 ^ a) (2 ^ 24))
      ∙ floor_at-more (sign x) (D * 2 ^ 24) (2 ^ a * 2 ^ 24) (mag f x) (2 ^ 1050) (pow_pos 1050) (le_trans wide-size (le_of_eq (sym (mul_assoc (2 ^ a) (2 ^ 24) (2 ^ 1050)))))
      ∙ ap (λ (z : ℕ). D * 2 ^ 24 + z) (sym (moved-wide (2 ^ a) x wide-real))
