-- Sine and cosine lie in -1..1 at every angle. In the first quarter of the turn both are read off
-- R, cosine backwards, and neither is negative nor -0. Assumes nothing.
use mathlib.Core.Path.{◌≡◌, refl, sym, ap, ◌∙◌}
use mathlib.Core.Logic.{inl, inr}
use mathlib.Core.Bool.{Bool, true, false, cond}
use Prim.Native.Nat.{ℕ, ◌+◌, ◌-◌, ◌*◌, ◌/◌, ◌%◌, ◌^◌, ◌≤◌, ◌<◌}
use native.Mathlib.Nat.{mul-le-mul_right, mod-eq_of_lt}
use native.Mathlib.Omega.{arith}
use lib.Dec.{T, eqb}
use lib.Ieee.{Float, nan, inf, fin, Format, binary32, low, round, neg, le}
use lib.Ieee.Exact.{HasValue}
use lib.Ieee.Scale.{overflow}
use borrow.Author.Tests.{eq-eqb, ne_eqb}
use Rattle.lists.specs.Interpolation.{interp, here_or_on}
use Rattle.float_laws.specs.Units.{mag, sign, number, real, key, keyed, real-number, key→le}
use Rattle.float_laws.specs.Order.{number_fits}
use Rattle.float_laws.specs.Round.{plus_zero, mag-of-value, round_number, sign-round}
use Rattle.float_laws.specs.Mono.{real-neg, key-neg, key-nonneg}
use Rattle.float_laws.specs.Bounds.{one, real-one, mag-one}
use Rattle.float_laws.specs.Rise.{Upto, upto-level}
use Rattle.sine.specs.Table.{sine_table, R}
use Rattle.sine.specs.Sine.{U, v, turned, wave, sin_of, cos_of}
use Rattle.sine.proofs.Waves.{wave-value, wave-small, wave-up, wave-zero}

-- ---- a number whose size is at most that of 1
value-real : (f : Format) (x : Float) (s : Bool) (a c : ℕ) → T (number f x) → HasValue x s a c → T (real f x)
value-real f nan s a c n h = n
value-real f (inf t) s a c n h = absurd h
value-real f (fin t m e) s a c n h = n

keyed-within : (K L m : ℕ) (s : Bool) → m ≤ L → (K - L ≤ keyed K s m) × (keyed K s m ≤ K + L)
keyed-within K L m false h = omega arith
keyed-within K L m true h = omega arith

within-one : (f : Format) (x : Float) → T (number f x) → mag f x ≤ 2 ^ low f → T (le (neg one) x) × T (le x one)
within-one f x n h =
    let K = overflow f in
    let L = 2 ^ low f in
    let b = keyed-within K L (mag f x) (sign x) h in
    let e : key f one ≡ K + L = ap (λ (z : ℕ). K + z) (mag-one f) in
    let e' = key-neg f one (real-number f one (real-one f)) in
    let m = real-neg f one (real-one f) in
    (key→le f (neg one) x (real-number f (neg one) m) n (omega arith), key→le f x one n (real-number f one (real-one f)) (omega arith))

clear-nonneg : (f : Format) (x : Float) → T (number f x) → sign x ≡ false → T (le plus_zero x)
clear-nonneg f x n s = key-nonneg f x n (rw (ap (λ (b : Bool). keyed (overflow f) b (mag f x)) s) (omega arith))

-- ---- every place
scaled : (m w L : ℕ) → m * 16777216 ≡ w * L → w ≤ 16777216 → m ≤ L
scaled m w L e h = omega (arith, mul-le-mul_right L h)

module _ (place : ℕ) where
  wave-number : T (number binary32 (wave place))
  unfolding wave
  wave-number = round_number binary32 _ _ _

  wave-real : T (real binary32 (wave place))
  wave-real = value-real binary32 (wave place) _ _ _ wave-number (wave-value place)

  wave-size : mag binary32 (wave place) * 2 ^ 24 ≡ v place / 64 * 2 ^ low binary32
  wave-size = mag-of-value binary32 (wave place) _ (v place / 64) (2 ^ 24) (number_fits binary32 (wave place) wave-number) (wave-value place)

  size_small : mag binary32 (wave place) ≤ 2 ^ low binary32
  size_small = scaled (mag binary32 (wave place)) (v place / 64) (2 ^ low binary32) wave-size (wave-small place (v place / 64) refl)

  wave-range : T (le (neg one) (wave place)) × T (le (wave place) one)
  wave-range = within-one binary32 (wave place) wave-number size_small

-- ---- every angle
pub sin-within-one : (θ : Float) → T (le (neg one) (sin_of θ)) × T (le (sin_of θ) one)
unfolding sin_of
sin-within-one θ = wave-range (U θ)

pub cos-within-one : (θ : Float) → T (le (neg one) (cos_of θ)) × T (le (cos_of θ) one)
unfolding cos_of
cos-within-one θ = wave-range ((U θ + 2 ^ 22) % 2 ^ 24)

-- ---- the first quarter, its end too: sine reads R at the place, and cosine at what is left of the
-- quarter
half-turn : v 8388608 / 64 ≡ 0
unfolding turned interp sine_table
half-turn = refl

module _ (place : ℕ) (h : place ≤ 4194304) where
  abbrev ahead : ℕ
  ahead = (place + 2 ^ 22) % 2 ^ 24

  sin-turned : turned place ≡ place
  unfolding turned
  sin-turned = elim (here_or_on place 4194304) [ inl l ↦ inside l | inr l ↦ let e : place ≡ 4194304 = omega arith in rw e ]
    where
      inside : place < 4194304 → cond (eqb (place / 4194304 % 2) 1) (4194304 - place % 4194304) (place % 4194304) ≡ place
      inside l = rw (ne_eqb (place / 4194304 % 2) 1 (λ e. omega arith)) (mod-eq_of_lt l)

  cos-turned : turned ahead ≡ 4194304 - place
  unfolding turned
  cos-turned = elim (here_or_on place 4194304) [ inl l ↦ inside l | inr l ↦ let e : place ≡ 4194304 = omega arith in rw e ]
    where
      inside : place < 4194304 → cond (eqb (ahead / 4194304 % 2) 1) (4194304 - ahead % 4194304) (ahead % 4194304) ≡ 4194304 - place
      inside l =
          let e : ahead ≡ place + 4194304 = omega arith in
          rw (e, eq-eqb ((place + 4194304) / 4194304 % 2) 1 (omega arith)) (omega arith)

  sin-clear : sign (wave place) ≡ false
  sin-clear = ap sign (sym (wave-up place (v place / 64) refl (omega arith))) ∙ sign-round binary32 false (v place / 64) 16777216

  cos-clear : sign (wave ahead) ≡ false
  cos-clear = ap sign (sym up) ∙ sign-round binary32 false (v ahead / 64) 16777216
    where
      nothing : 4194304 ≤ place → v ahead / 64 ≡ 0
      nothing l = let e : ahead ≡ 8388608 = omega arith in ap (λ (n : ℕ). v n / 64) e ∙ half-turn

      up : round binary32 false (v ahead / 64) 16777216 ≡ wave ahead
      up = elim (here_or_on place 4194304) [ inl l ↦ wave-up ahead (v ahead / 64) refl (omega arith) | inr l ↦ wave-zero ahead (v ahead / 64) refl (nothing l) ]

  sin-size : mag binary32 (wave place) * 2 ^ 24 ≡ interp 14 R place / 64 * 2 ^ low binary32
  sin-size = wave-size place ∙ ap (λ (n : ℕ). interp 14 R n / 64 * 2 ^ low binary32) sin-turned

  cos-size : mag binary32 (wave ahead) * 2 ^ 24 ≡ interp 14 R (4194304 - place) / 64 * 2 ^ low binary32
  cos-size = wave-size ahead ∙ ap (λ (n : ℕ). interp 14 R n / 64 * 2 ^ low binary32) cos-turned

-- x is n / 2 ^ 24, in 0..1, and not -0
pub record Level (x : Float) (n : ℕ) : Type 0 where
  pub upto : Upto binary32 0 x
  pub clear : sign x ≡ false
  pub size : mag binary32 x * 2 ^ 24 ≡ n * 2 ^ low binary32

level : (place n : ℕ) → sign (wave place) ≡ false → mag binary32 (wave place) * 2 ^ 24 ≡ n * 2 ^ low binary32 → Level (wave place) n
level place n s e =
    record { upto = upto-level binary32 (wave place) (wave-real place) (clear-nonneg binary32 (wave place) (wave-number place) s) (wave-range place).1; clear = s; size = e }

module _ (θ : Float) (h : U θ ≤ 2 ^ 22) where
  pub sin-first-quarter : Level (sin_of θ) (interp 14 R (U θ) / 64)
  unfolding sin_of
  sin-first-quarter = level (U θ) (interp 14 R (U θ) / 64) (sin-clear (U θ) h) (sin-size (U θ) h)

  pub cos-first-quarter : Level (cos_of θ) (interp 14 R (2 ^ 22 - U θ) / 64)
  unfolding cos_of
  cos-first-quarter = level ((U θ + 2 ^ 22) % 2 ^ 24) (interp 14 R (4194304 - U θ) / 64) (cos-clear (U θ) h) (cos-size (U θ) h)
