-- Powers of two as values, and the bounds that they give on a rounded result. Assumes nothing.
use Rattle.std.specs.Prelude.{◌≡◌, false, ◌&&◌, ℕ, suc, ◌*◌, ◌%◌, ◌^◌, ◌≤◌, ◌<◌, pos, T, ltb, leb, eqb, Float}
use Rattle.std.proofs.Common.{sym, ap, ◌∙◌, subst, one-mul, mul-one, div-one, le_trans, le_of_eq, lt_of_le_of_lt, lt_of_lt_of_le, arith, pow_pos, pow_mono, lt→ltb, le→leb, lit≤}
use Rattle.std.proofs.Math.Pow.{pow-lt}
use Rattle.std.specs.Float.{fin, Format}
use Rattle.std.specs.Float.Ieee.{prec, emax, low, fits}
use Rattle.std.specs.Float.Ieee.Fits.{and_i, two}
use Rattle.std.specs.Float.Ieee.Scale.{overflow}
use Rattle.float_laws.specs.Units.{mag, real, mag-below}
use Rattle.float_laws.specs.Round.{rnd}
use Rattle.float_laws.specs.Error.{rnd-at-most}

abbrev pub power : ℕ → Float
power k = fin false 1 (pos k)

pub mag-power : (f : Format) (k : ℕ) → mag f (power k) ≡ 2 ^ k * 2 ^ low f
unfolding mag
mag-power f k = div-one (1 * 2 ^ k * 2 ^ low f) ∙ ap (λ (z : ℕ). z * 2 ^ low f) (one-mul (2 ^ k))

pub real-power : (f : Format) (k : ℕ) → k ≤ emax f → T (real f (power k))
unfolding fits
real-power f k h =
    and_i (eqb (1 % 2) 1 && ltb 1 (2 ^ prec f) && leb 1 (2 ^ low f)) (ltb (1 * 2 ^ k) (2 ^ suc (emax f) * 1))
    (and_i (ltb 1 (2 ^ prec f)) (leb 1 (2 ^ low f)) (lt→ltb 1 (2 ^ prec f) (le_trans (lit≤ {n = 2 ^ 2} tt) (pow_mono (two f)))) (le→leb 1 (2 ^ low f) (pow_pos (low f))))
    (lt→ltb (1 * 2 ^ k) (2 ^ suc (emax f) * 1) (lt_of_le_of_lt (le_of_eq (one-mul (2 ^ k))) (lt_of_lt_of_le (pow-lt (omega arith)) (le_of_eq (sym (mul-one (2 ^ suc (emax f))))))))

-- at most 2 ^ k, so below the overflow
pub rnd-power : (f : Format) (k a c : ℕ) → k ≤ emax f → 0 < c → a * 2 ^ low f ≤ 2 ^ k * 2 ^ low f * c → rnd f a c ≤ 2 ^ k * 2 ^ low f
rnd-power f k a c h C l =
    le_trans (rnd-at-most f (power k) a c (real-power f k h) C (le_trans l (le_of_eq (ap (λ (z : ℕ). z * c) (sym (mag-power f k)))))) (le_of_eq (mag-power f k))

pub power_below : (f : Format) (k : ℕ) → k ≤ emax f → 2 ^ k * 2 ^ low f < overflow f
power_below f k h = subst (λ (z : ℕ). z < overflow f) (mag-power f k) (mag-below f (power k) (real-power f k h))
