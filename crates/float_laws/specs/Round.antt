-- Rounding, in units of the format's smallest value. `rnd f a c` is the size of a / c rounded to
-- the format f, in those units. It takes no sign: `round` with either sign has that size.
-- It keeps the order, sees only the value of the fraction, and leaves every value of the format
-- alone. Assumes nothing.
use Rattle.std.specs.Prelude.{◌≡◌, Bool, true, false, not, cond, ℕ, zero, suc, ◌+◌, ◌-◌, ◌*◌, ◌/◌, ◌^◌, ◌≤◌, ◌<◌, ℤ, pos, negsuc, T, ltb, Float}
use Rattle.std.proofs.Math.Path.{refl}
use Rattle.std.proofs.Common.{sym, ap, ◌∙◌, subst, mul-pos, zero-mul, mul_assoc, mul_right_comm, mul-one, arith, pow-add, pow_pos}
use Rattle.std.proofs.Math.Nat.{eq_of_mul-eq-mul_right, zero-div}
use Rattle.std.specs.Float.Ieee.Digits.{back}
use Rattle.std.specs.Float.{nan, inf, fin, Format}
use Rattle.std.specs.Float.Ieee.{prec, emax, up, down, low, fits, odd, units, round, neg, is_nan}
use Rattle.std.specs.Float.Ieee.Fits.{down_pos, round-fits, round_is}
use Rattle.std.specs.Float.Ieee.Exact.{HasValue, round_exact}
use Rattle.std.specs.Float.Ieee.Order.{kept, drop, round_mono}
use Rattle.std.specs.Float.Ieee.Scale.{overflow, round_same}
use Rattle.float_laws.specs.Units.{mag, sign, number, real, key, keyed, mag-exact, mag-below, mag-le, le→key, exponent-le, down_le, digits-below}
use Rattle.float_laws.specs.Order.{fits-number}

-- ---- the sign only passes through
odd-neg : (d q k l : ℕ) → odd d true q k l ≡ neg (odd d false q k l)
unfolding odd neg
odd-neg d zero k l = refl
odd-neg d (suc q) k l = refl

units-neg : (f : Format) (q k : ℕ) → units f true q k ≡ neg (units f false q k)
unfolding units
units-neg f q k = go (ltb (q * 2 ^ k) (2 ^ (low f + suc (emax f))))
  where
    go : (b : Bool) → cond b (odd (suc (prec f)) true q k (low f)) (inf true) ≡ neg (cond b (odd (suc (prec f)) false q k (low f)) (inf false))
    go true = odd-neg (suc (prec f)) q k (low f)
    go false = unfold neg in refl

pub round-neg : (f : Format) (a c : ℕ) → round f true a c ≡ neg (round f false a c)
round-neg f a c =
    round_is f true a c
    ∙ units-neg f (kept (prec f) (a * 2 ^ low f) c) (drop (prec f) (a * 2 ^ low f) c)
    ∙ ap neg (sym (round_is f false a c))

pub mag-neg : (f : Format) (x : Float) → mag f (neg x) ≡ mag f x
unfolding neg mag
mag-neg f nan = refl
mag-neg f (inf s) = refl
mag-neg f (fin s m e) = refl

unfoldable pub rnd : Format → ℕ → ℕ → ℕ
rnd f a c = mag f (round f false a c)

pub mag-round : (f : Format) (s : Bool) (a c : ℕ) → mag f (round f s a c) ≡ rnd f a c
unfolding rnd
mag-round f false a c = refl
mag-round f true a c = ap (mag f) (round-neg f a c) ∙ mag-neg f (round f false a c)

-- ---- `round` is never NaN, and has the sign that it is given
pub odd-kind : (d : ℕ) (s : Bool) (q k l : ℕ) → (sign (odd d s q k l) ≡ s) × T (not (is_nan (odd d s q k l)))
unfolding odd is_nan
odd-kind d s zero k l = (refl, tt)
odd-kind d s (suc q) k l = (refl, tt)

units-kind : (f : Format) (s : Bool) (q k : ℕ) → (sign (units f s q k) ≡ s) × T (not (is_nan (units f s q k)))
unfolding units
units-kind f s q k = go (ltb (q * 2 ^ k) (2 ^ (low f + suc (emax f))))
  where
    go : (b : Bool) → (sign (cond b (odd (suc (prec f)) s q k (low f)) (inf s)) ≡ s) × T (not (is_nan (cond b (odd (suc (prec f)) s q k (low f)) (inf s))))
    go true = odd-kind (suc (prec f)) s q k (low f)
    go false = (refl, unfold is_nan in tt)

round-kind : (f : Format) (s : Bool) (a c : ℕ) → (sign (round f s a c) ≡ s) × T (not (is_nan (round f s a c)))
round-kind f s a c = rw round_is (units-kind f s (kept (prec f) (a * 2 ^ low f) c) (drop (prec f) (a * 2 ^ low f) c))

pub sign-round : (f : Format) (s : Bool) (a c : ℕ) → sign (round f s a c) ≡ s
sign-round f s a c = (round-kind f s a c).0

pub round_number : (f : Format) (s : Bool) (a c : ℕ) → T (number f (round f s a c))
round_number f s a c = fits-number f (round f s a c) (round-fits f s a c) (round-kind f s a c).1

pub key-round : (f : Format) (s : Bool) (a c : ℕ) → key f (round f s a c) ≡ keyed (overflow f) s (rnd f a c)
key-round f s a c = ap (λ (t : Bool). keyed (overflow f) t (mag f (round f s a c))) (sign-round f s a c) ∙ ap (keyed (overflow f) s) (mag-round f s a c)

pub rnd-le : (f : Format) (a c : ℕ) → rnd f a c ≤ overflow f
unfolding rnd
rnd-le f a c = mag-le f (round f false a c) (round_number f false a c)

-- ---- the order, and the value
above : (K a b : ℕ) → K + a ≤ K + b → a ≤ b
above K a b h = omega arith

pub rnd-mono : (f : Format) (a b c d : ℕ) → 0 < b → 0 < d → a * d ≤ c * b → rnd f a b ≤ rnd f c d
rnd-mono f a b c d B D h =
    let l = le→key f (round f false a b) (round f false c d) (round_number f false a b) (round_number f false c d) (round_mono f a b c d B D h) in
    above (overflow f) (rnd f a b) (rnd f c d) (rw (key-round f false a b, key-round f false c d) at l)

pub rnd-same : (f : Format) (a b c d : ℕ) → 0 < b → 0 < d → a * d ≡ c * b → rnd f a b ≡ rnd f c d
unfolding rnd
rnd-same f a b c d B D h = ap (mag f) (round_same f false a b c d B D h)

-- the size of a value that is known as a fraction
pub mag-of-value : (f : Format) (x : Float) (s : Bool) (a c : ℕ) → T (fits f x) → HasValue x s a c → mag f x * c ≡ a * 2 ^ low f
mag-of-value f nan s a c h v = absurd v
mag-of-value f (inf t) s a c h v = absurd v
mag-of-value f (fin t m e) s a c h v =
    eq_of_mul-eq-mul_right (down e) (down_pos e) (mag f (fin t m e) * c) (a * 2 ^ low f)
    (mul_right_comm (mag f (fin t m e)) c (down e)
    ∙ ap (λ (z : ℕ). z * c) (mag-exact f t m e h)
    ∙ mul_right_comm (m * up e) (2 ^ low f) c
    ∙ ap (λ (z : ℕ). z * 2 ^ low f) v.1
    ∙ mul_right_comm a (down e) (2 ^ low f))

-- ---- a whole number of units that the format holds: at most `prec` binary digits, and zeros after
-- them
pub record Held (f : Format) (n : ℕ) : Type 0 where
  pub digits : ℕ
  pub zeros : ℕ
  pub is : n ≡ digits * 2 ^ zeros
  pub short : digits < 2 ^ prec f

-- a fraction that is such a number of units, below the overflow, rounds to it
pub rnd-held : (f : Format) (n a c : ℕ) → Held f n → n < overflow f → 0 < c → a * 2 ^ low f ≡ n * c → rnd f a c ≡ n
unfolding rnd
rnd-held f n a c h b C e =
    let r = round f false a c in
    let v = round_exact f false a c h.digits h.zeros C h.short (subst (λ (z : ℕ). z < overflow f) h.is b) (e ∙ ap (λ (z : ℕ). z * c) h.is) in
    eq_of_mul-eq-mul_right c C (mag f r) n (mag-of-value f r false a c (round-fits f false a c) v ∙ e)

-- every finite value is one
shift : (m l : ℕ) (e : ℤ) → down e ≤ 2 ^ l → (j : ℕ) × (m * up e * 2 ^ l ≡ m * 2 ^ j * down e)
shift m l (pos k) h = (k + l, mul_assoc m (2 ^ k) (2 ^ l) ∙ ap (λ (z : ℕ). m * z) (sym (pow-add 2 k l)) ∙ sym (mul-one (m * 2 ^ (k + l))))
shift m l (negsuc k) h = (
  l - suc k,
  ap (λ (z : ℕ). z * 2 ^ l) (mul-one m)
      ∙ ap (λ (z : ℕ). m * 2 ^ z) (sym (back l (suc k) (exponent-le (suc k) l h)))
      ∙ ap (λ (z : ℕ). m * z) (pow-add 2 (l - suc k) (suc k))
      ∙ sym (mul_assoc m (2 ^ (l - suc k)) (2 ^ suc k)),
)

pub held-real : (f : Format) (x : Float) → T (real f x) → Held f (mag f x)
held-real f nan p = absurd p
held-real f (inf s) p = absurd p
held-real f (fin s m e) p =
    let (j, E) = shift m (low f) e (down_le f s m e p) in
    record { digits = m; zeros = j; is = eq_of_mul-eq-mul_right (down e) (down_pos e) (mag f (fin s m e)) (m * 2 ^ j) (mag-exact f s m e p ∙ E); short = digits-below f s m e p }

pub rnd-real : (f : Format) (x : Float) → T (real f x) → rnd f (mag f x) (2 ^ low f) ≡ mag f x
rnd-real f x p = rnd-held f (mag f x) (mag f x) (2 ^ low f) (held-real f x p) (mag-below f x p) (pow_pos (low f)) refl

-- a fraction that a finite value equals rounds to that value
pub rnd-exact : (f : Format) (x : Float) (a c : ℕ) → T (real f x) → 0 < c → a * 2 ^ low f ≡ mag f x * c → rnd f a c ≡ mag f x
rnd-exact f x a c p C h = rnd-same f a c (mag f x) (2 ^ low f) C (pow_pos (low f)) h ∙ rnd-real f x p

-- how many units of the square make 1
pub squared-pos : (f : Format) → 0 < 2 ^ low f * 2 ^ low f
squared-pos f = mul-pos (pow_pos (low f)) (pow_pos (low f))

-- ---- zero
abbrev pub plus_zero : Float
plus_zero = fin false 0 (pos 0)

pub mag-zero : (f : Format) (s : Bool) (e : ℤ) → mag f (fin s 0 e) ≡ 0
unfolding mag
mag-zero f s e = ap (λ (z : ℕ). z * 2 ^ low f / down e) (zero-mul (up e)) ∙ ap (λ (z : ℕ). z / down e) (zero-mul (2 ^ low f)) ∙ zero-div (down e)

pub real-zero : (f : Format) (s : Bool) → T (real f (fin s 0 (pos 0)))
unfolding fits
real-zero f s = tt

pub rnd-zero : (f : Format) (c : ℕ) → 0 < c → rnd f 0 c ≡ 0
rnd-zero f c C =
    rnd-exact f plus_zero 0 c (real-zero f false) C (zero-mul (2 ^ low f) ∙ sym (zero-mul c) ∙ ap (λ (z : ℕ). z * c) (sym (mag-zero f false (pos 0))))
    ∙ mag-zero f false (pos 0)

pub key-zero : (f : Format) → key f plus_zero ≡ overflow f
key-zero f = omega (arith, mag-zero f false (pos 0))
