-- The place of an angle in its turn: floor(u * 2 ^ 24) mod 2 ^ 24 is what is left of the steps with
-- whole turns added, since whole turns do not count; and from 2 ^ 23 turns on it is 0. Assumes
-- nothing.
use mathlib.Core.Path.{◌≡◌, refl, sym, ap, ◌∙◌}
use mathlib.Core.Bool.{Bool, true, false, not}
use Prim.Native.Nat.{ℕ, ◌+◌, ◌-◌, ◌*◌, ◌%◌, ◌^◌, ◌≤◌, ◌<◌}
use native.Mathlib.Nat.{le_of_lt, lt_of_not-le, mul-le-mul_right, mul_comm, mul-one, mul_right_comm, add-mul, mul-add-mod_self_left, mul-mod_left, mod-lt, div-one, eq_of_mul-eq-mul_right}
use native.Mathlib.Decide.{dec_le}
use native.Mathlib.Omega.{arith}
use lib.Dec.{T, T_not, lit<, lit≤}
use lib.IntN.{ℤ}
use lib.Pow.{pow_pos}
use lib.Bits.{bit_and, and_mask}
use lib.Ieee.{Float, nan, inf, fin, binary32, up, down, le, neg, fits}
use lib.Ieee.Fits.{and_i, down_pos}
use lib.Ieee.Scale.{overflow}
use Rattle.float_laws.specs.Units.{mag, keyed, mag-exact, key→le}
use Rattle.float_laws.specs.Round.{held-real}
use Rattle.float_laws.specs.Signs.{sub-mul}
use Rattle.float_laws.specs.Exact.{held-multiple}
use Rattle.float32.specs.Value.{floor_at, moved}
use Rattle.float32.specs.Order.{within}
use Rattle.fixed_point.specs.Fixed.{nearby, farthest}
use Rattle.float32.proofs.Floor.{floor_at-same}
use Rattle.fixed_point.proofs.Wide.{moved_more}
use Rattle.sine.specs.Sine.{u, U}

pub place-below : (θ : Float) → U θ < 16777216
unfolding U
place-below θ = mod-lt (moved (2 ^ 128) (u θ)) (pow_pos 24)

-- ---- whole turns more do not count
turns : (D z : ℕ) → (D * 2 ^ 24 + z) % 2 ^ 24 ≡ z % 2 ^ 24
turns D z = ap (λ (n : ℕ). (n + z) % 2 ^ 24) (mul_comm D (2 ^ 24)) ∙ mul-add-mod_self_left (2 ^ 24) D z

module _ (x : Float) (F : T (fits binary32 x)) where
  pub near-place : T (within (neg nearby) nearby x) → bit_and (moved (2 ^ 10) x) 16777215 ≡ moved (2 ^ 128) x % 16777216
  near-place w =
      and_mask (moved (2 ^ 10) x) 24
      ∙ ap (λ (z : ℕ). z % 2 ^ 24) (moved_more 9 (lit≤ tt) x F w (2 ^ 9))
      ∙ turns (2 ^ 9) (moved (2 ^ 9) x)
      ∙ sym (ap (λ (z : ℕ). z % 2 ^ 24) (moved_more 9 (lit≤ tt) x F w (2 ^ 128 - 2 ^ 9)) ∙ turns (2 ^ 128 - 2 ^ 9) (moved (2 ^ 9) x))

  pub far-place : T (within (neg farthest) farthest x) → bit_and (moved (2 ^ 23) x) 16777215 ≡ moved (2 ^ 128) x % 16777216
  far-place w =
      and_mask (moved (2 ^ 23) x) 24
      ∙ sym (ap (λ (z : ℕ). z % 2 ^ 24) (moved_more 23 (lit≤ tt) x F w (2 ^ 128 - 2 ^ 23)) ∙ turns (2 ^ 128 - 2 ^ 23) (moved (2 ^ 23) x))

-- ---- farther on x is a whole number
whole-turns : (s : Bool) (n : ℕ) → floor_at s (2 ^ 152) (n * 2 ^ 24) 1 % 2 ^ 24 ≡ 0
whole-turns false n =
    ap (λ (z : ℕ). z % 2 ^ 24) (div-one (2 ^ 152 * 1 + n * 2 ^ 24) ∙ sym (add-mul (2 ^ 128) n (2 ^ 24))) ∙ mul-mod_left (2 ^ 128 + n) (2 ^ 24)
whole-turns true n =
    ap (λ (z : ℕ). z % 2 ^ 24) (div-one (2 ^ 152 * 1 - n * 2 ^ 24) ∙ sym (sub-mul (2 ^ 128) n (2 ^ 24))) ∙ mul-mod_left (2 ^ 128 - n) (2 ^ 24)

whole-place : (s : Bool) (m : ℕ) (e : ℤ) (n : ℕ) → T (fits binary32 (fin s m e)) → mag binary32 (fin s m e) ≡ n * 2 ^ 149 → 0 ≡ moved (2 ^ 128) (fin s m e) % 16777216
unfolding moved
whole-place s m e n F h =
    sym (ap (λ (z : ℕ). z % 2 ^ 24) (floor_at-same s (2 ^ 152) (m * up e * 2 ^ 24) (down e) (n * 2 ^ 24) 1 (down_pos e) (lit< tt) cross) ∙ whole-turns s n)
  where
    size : n * down e ≡ m * up e
    size = eq_of_mul-eq-mul_right (2 ^ 149) (pow_pos 149) (n * down e) (m * up e) (mul_right_comm n (down e) (2 ^ 149) ∙ ap (λ (z : ℕ). z * down e) (sym h) ∙ mag-exact binary32 s m e F)

    cross : m * up e * 2 ^ 24 * 1 ≡ n * 2 ^ 24 * down e
    cross = mul-one (m * up e * 2 ^ 24) ∙ ap (λ (z : ℕ). z * 2 ^ 24) (sym size) ∙ mul_right_comm n (down e) (2 ^ 24)

-- what is below 2 ^ 23 in size is in range
in-far : (s : Bool) (m : ℕ) (e : ℤ) → T (fits binary32 (fin s m e)) → mag binary32 (fin s m e) ≤ 2 ^ 172 → T (within (neg farthest) farthest (fin s m e))
unfolding within mag neg fits
in-far s m e F h =
    and_i (le (neg farthest) (fin s m e)) (le (fin s m e) farthest)
    (key→le binary32 (neg farthest) (fin s m e) tt F (low (overflow binary32) s (mag binary32 (fin s m e)) (2 ^ 172) h))
    (key→le binary32 (fin s m e) farthest F tt (high (overflow binary32) s (mag binary32 (fin s m e)) (2 ^ 172) h))
  where
    low : (K : ℕ) (t : Bool) (a b : ℕ) → a ≤ b → K - b ≤ keyed K t a
    low K false a b l = omega arith
    low K true a b l = omega arith

    high : (K : ℕ) (t : Bool) (a b : ℕ) → a ≤ b → keyed K t a ≤ K + b
    high K false a b l = omega arith
    high K true a b l = omega arith

pub beyond-place : (x : Float) → T (fits binary32 x) → T (not (within (neg farthest) farthest x)) → 0 ≡ moved (2 ^ 128) x % 16777216
unfolding moved
beyond-place nan F n = refl
beyond-place (inf true) F n = refl
beyond-place (inf false) F n = refl
beyond-place (fin s m e) F n = go (dec_le (2 ^ 172) (mag binary32 (fin s m e)))
  where
    go : Dec (2 ^ 172 ≤ mag binary32 (fin s m e)) → 0 ≡ moved (2 ^ 128) (fin s m e) % 16777216
    go (yes l) = let (q, h) = held-multiple binary32 (mag binary32 (fin s m e)) 149 (held-real binary32 (fin s m e) F) (mul-le-mul_right 2 l) in whole-place s m e q F h
    go (no l) = absurd (T_not (within (neg farthest) farthest (fin s m e)) n (in-far s m e F (le_of_lt (lt_of_not-le l))))
