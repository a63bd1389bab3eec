-- exp2 never falls, for any power of two of steps up to 2 ^ 24: all that is asked of the table is
-- its rule. Within an octave I(F) never falls; at its end floor (I(F) / 128) is below 2 ^ 24, and
-- the next octave begins at 2 ^ 23 of units twice as large. Assumes nothing.
use mathlib.Core.Path.{◌≡◌, refl, sym, ap, ◌∙◌, subst}
use mathlib.Core.Logic.{inl, inr}
use mathlib.Core.Bool.{Bool, true, false, not, cond}
use Prim.Native.Nat.{ℕ, suc, ◌+◌, ◌-◌, ◌*◌, ◌/◌, ◌%◌, ◌^◌, ◌≤◌, ◌<◌, zero-le}
use native.Mathlib.Nat.{mul_assoc, pow-succ', le_trans, le_of_eq, le_refl, le_of_suc-le-suc, eq-or-lt_of_le, le_of_lt, mul-le-mul, mul-le-mul_right}
use native.Mathlib.Omega.{arith}
use lib.Dec.{T, ltb, ltb→lt, nltb→le, lit≤}
use lib.Pow.{pow_pos, pow_mono, shr_mono}
use lib.Ieee.{Float, nan, inf, fin, odd, le, is_nan}
use lib.Ieee.Exact.{HasValue, odd_sign}
use lib.Ieee.Order.{le_of_values}
use Rattle.float32.specs.Value.{moved}
use Rattle.float32.proofs.Floor.{moved-mono}
use Rattle.lists.specs.Interpolation.{interp}
use Rattle.power.specs.Table.{high_bits, P}
use Rattle.power.specs.Rules.{Roots}
use Rattle.power.proofs.Rules.{P-rule}
use Rattle.power.specs.Power.{positive_zero, largest, power_at, power_of, E2}
use Rattle.power.specs.Rising.{PowersNeverFall, E2NeverFalls}
use Rattle.power.proofs.Interpolated.{interp-low, interp-high, interp-mono}
use Rattle.power.proofs.Normal.{largest-value}

zero-value : HasValue positive_zero false 0 (2 ^ 149)
zero-value = (refl, refl)

module _ {k w : ℕ} {p : ℕ → ℕ} (R : Roots k w p) where
  -- ---- the power in units of 2 ^ -149, for N = n + 128
  abbrev q : ℕ → ℕ
  q F = interp w p F / 128

  q-low : (F : ℕ) → F < 2 ^ 24 → 2 ^ 23 ≤ q F
  q-low F h = let a = interp-low R F h in omega arith

  q-high : (F : ℕ) → F < 2 ^ 24 → q F < 2 ^ 24
  q-high F h = let a = interp-high R F h in omega arith

  abbrev in_units : ℕ → ℕ → ℕ
  in_units N F = cond (ltb N 2) 0 (cond (ltb N 256) (q F * 2 ^ (N - 2)) (16777215 * 2 ^ 253))

  at_value : (N F : ℕ) → HasValue (power_at w p N F) false (in_units N F) (2 ^ 149)
  unfolding power_at
  at_value N F = go (ltb N 2) (ltb N 256)
    where
      go : (a b : Bool) → HasValue (cond a positive_zero (cond b (odd 24 false (q F) (N - 2) 149) largest)) false (cond a 0 (cond b (q F * 2 ^ (N - 2)) (16777215 * 2 ^ 253))) (2 ^ 149)
      go true b = zero-value
      go false true = odd_sign 24 false (q F) (N - 2) 149
      go false false = largest-value

  units-top : (N F : ℕ) → F < 2 ^ 24 → in_units N F ≤ 16777215 * 2 ^ 253
  units-top N F h = go (ltb N 2) (ltb N 256) (ltb→lt N 256)
    where
      go : (a b : Bool) → (T b → N < 256) → cond a 0 (cond b (q F * 2 ^ (N - 2)) (16777215 * 2 ^ 253)) ≤ 16777215 * 2 ^ 253
      go true b f = zero-le
      go false true f = let l = q-high F h in let g = f tt in mul-le-mul (le_of_suc-le-suc l) (pow_mono {i = N - 2} {j = 253} (omega arith))
      go false false f = le_refl (16777215 * 2 ^ 253)

  next-octave : (N M F G : ℕ) → 2 ≤ N → N < M → F < 2 ^ 24 → G < 2 ^ 24 → q F * 2 ^ (N - 2) ≤ q G * 2 ^ (M - 2)
  next-octave N M F G n h f g =
      le_trans (mul-le-mul_right (2 ^ (N - 2)) (le_of_lt (q-high F f)))
      (le_trans (le_of_eq (mul_assoc (2 ^ 23) 2 (2 ^ (N - 2)) ∙ ap (λ (x : ℕ). 2 ^ 23 * x) (sym (pow-succ' 2 (N - 2)))))
      (mul-le-mul (q-low G g) (pow_mono {i = suc (N - 2)} {j = M - 2} (omega arith))))

  units_mono : (N M F G : ℕ) → N ≤ M → (N ≡ M → F ≤ G) → F < 2 ^ 24 → G < 2 ^ 24 → in_units N F ≤ in_units M G
  units_mono N M F G h l f g = go (ltb N 2) (ltb N 256) (ltb M 2) (ltb M 256) (nltb→le N 2) (ltb→lt M 2) (nltb→le N 256) (ltb→lt M 256) (units-top N F f)
    where
      go : (a b a' b' : Bool) → (T (not a) → 2 ≤ N) → (T a' → M < 2) → (T (not b) → 256 ≤ N) → (T b' → M < 256)
          → cond a 0 (cond b (q F * 2 ^ (N - 2)) (16777215 * 2 ^ 253)) ≤ 16777215 * 2 ^ 253
          → cond a 0 (cond b (q F * 2 ^ (N - 2)) (16777215 * 2 ^ 253)) ≤ cond a' 0 (cond b' (q G * 2 ^ (M - 2)) (16777215 * 2 ^ 253))
      go true b a' b' A A' B B' t = zero-le
      go false b true b' A A' B B' t = absurd (omega (arith, A tt, A' tt))
      go false b false false A A' B B' t = t
      go false false false true A A' B B' t = absurd (omega (arith, B tt, B' tt))
      go false true false true A A' B B' t =
          elim (eq-or-lt_of_le h) [
            | inl e ↦ subst (λ (z : ℕ). q F * 2 ^ (N - 2) ≤ q G * 2 ^ (z - 2)) e (mul-le-mul_right (2 ^ (N - 2)) (shr_mono 7 (interp-mono R F G (l e) g)))
            | inr k ↦ next-octave N M F G (A tt) k f g
          ]

  -- ---- of Y = (n + 128) * 2 ^ 24 + F
  abbrev units_at : ℕ → ℕ
  units_at Y = in_units (Y / 2 ^ 24) (Y % 2 ^ 24)

  units_at-mono : (Y Z : ℕ) → Y ≤ Z → units_at Y ≤ units_at Z
  units_at-mono Y Z h = units_mono (Y / 2 ^ 24) (Z / 2 ^ 24) (Y % 2 ^ 24) (Z % 2 ^ 24) (omega arith) (λ e. omega arith) (omega arith) (omega arith)

  pub power-value : (x : Float) → T (not (is_nan x)) → HasValue (power_of w p x) false (units_at (moved 128 x)) (2 ^ 149)
  unfolding power_of
  power-value x h = go (is_nan x) h
    where
      go : (b : Bool) → T (not b) → HasValue (cond b positive_zero (power_at w p (moved 128 x / 2 ^ 24) (moved 128 x % 2 ^ 24))) false (units_at (moved 128 x)) (2 ^ 149)
      go true t = absurd t
      go false t = at_value (moved 128 x / 2 ^ 24) (moved 128 x % 2 ^ 24)

  by_units : (x y : Float) → T (not (is_nan x)) → T (not (is_nan y)) → units_at (moved 128 x) ≤ units_at (moved 128 y) → T (le (power_of w p x) (power_of w p y))
  by_units x y h k l =
      le_of_values (power_of w p x) (power_of w p y) (units_at (moved 128 x)) (2 ^ 149) (units_at (moved 128 y)) (2 ^ 149) (pow_pos 149) (pow_pos 149)
      (power-value x h) (power-value y k) (mul-le-mul_right (2 ^ 149) l)

  inf-low : units_at (moved 128 (inf true)) ≡ 0
  unfolding moved
  inf-low = refl

  inf-top : units_at (moved 128 (inf false)) ≡ 16777215 * 2 ^ 253
  unfolding moved
  inf-top = refl

  rises : (x y : Float) → T (le x y) → T (le (power_of w p x) (power_of w p y))
  unfolding le is_nan
  rises nan y h = absurd h
  rises (inf true) nan h = absurd h
  rises (inf true) (inf t) h = by_units (inf true) (inf t) tt tt (rw inf-low zero-le)
  rises (inf true) (fin t n d) h = by_units (inf true) (fin t n d) tt tt (rw inf-low zero-le)
  rises (inf false) nan h = absurd h
  rises (inf false) (inf true) h = absurd h
  rises (inf false) (inf false) h = by_units (inf false) (inf false) tt tt (le_refl (units_at (moved 128 (inf false))))
  rises (inf false) (fin t n d) h = absurd h
  rises (fin s m e) nan h = absurd h
  rises (fin s m e) (inf true) h = absurd h
  rises (fin s m e) (inf false) h = by_units (fin s m e) (inf false) tt tt (rw inf-top (units-top (moved 128 (fin s m e) / 2 ^ 24) (moved 128 (fin s m e) % 2 ^ 24) (omega arith)))
  rises (fin s m e) (fin t n d) h = by_units (fin s m e) (fin t n d) tt tt (units_at-mono (moved 128 (fin s m e)) (moved 128 (fin t n d)) (moved-mono 128 s m e t n d h))

-- ---- for any power of two of steps up to 2 ^ 24, and then for this one
pub powers-never-fall : PowersNeverFall
powers-never-fall k h p r = rises {k = k} record { bits = let e : k + (24 - k) ≡ 24 = omega arith in e; root = r }

pub E2-mono : E2NeverFalls
unfolding E2
E2-mono = powers-never-fall high_bits (lit≤ tt) P P-rule.root
