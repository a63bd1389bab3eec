-- A positive normal v in units of 2 ^ -149, f32's smallest value: from 2 ^ 23 of them to
-- (2 ^ 24 - 1) * 2 ^ 253, which is what the tests of `log2` on the parts of v come to.
-- Assumes nothing.
use mathlib.Core.Path.{◌≡◌, refl, sym, ap, ◌∙◌, subst}
use mathlib.Core.Logic.{inl, inr}
use mathlib.Core.Bool.{Bool, true, false, true≢false}
use Prim.Native.Nat.{ℕ, ◌*◌, ◌/◌, ◌^◌, ◌≤◌, ◌<◌}
use native.Mathlib.Nat.{le_trans, le_of_eq, lt_of_lt_of_le, not-le_of_lt, le_of_suc-le-suc, eq-zero-or-pos, mul_assoc, mul_comm, mul_right_comm, mul-one, one-mul, mul-div_cancel, mul-le-mul, mul-le-mul_right, le_of_mul-le-mul_right, le-div_iff_mul-le}
use native.Mathlib.Omega.{arith}
use lib.Dec.{T, not_T, lit<}
use lib.Pow.{pow_pos, pow-add, pow_mono}
use lib.IntN.{ℤ, negsuc}
use lib.Ieee.{Float, nan, inf, fin, up, down, le}
use lib.Ieee.Bits.{is_true, is_false}
use lib.Ieee.Exact.{HasValue}
use lib.Ieee.Fits.{down_pos, and_i, and_l, and_r}
use lib.Ieee.Nearest.{div_mono}
use lib.Ieee.Order.{transfer, le_of_values}
use Rattle.float32.specs.Value.{Decoded}
use Rattle.float_laws.specs.Signs.{ord-of-le}
use Rattle.power.specs.Power.{largest}
use Rattle.power.specs.Log.{least_normal, positive_normal, units_of}

-- ---- the order of two values that are not negative, as fractions
fractions-of-le : (x y : Float) (a c b d : ℕ) → HasValue x false a c → HasValue y false b d → T (le x y) → a * d ≤ b * c
fractions-of-le nan y a c b d v w h = absurd v
fractions-of-le (inf s) y a c b d v w h = absurd v
fractions-of-le (fin true m e) y a c b d v w h = absurd (true≢false v.0)
fractions-of-le (fin false m e) nan a c b d v w h = absurd w
fractions-of-le (fin false m e) (inf t) a c b d v w h = absurd w
fractions-of-le (fin false m e) (fin true n g) a c b d v w h = absurd (true≢false w.0)
fractions-of-le (fin false m e) (fin false n g) a c b d v w h =
    transfer a b c d (m * up e) (n * up g) (down e) (down g) (down_pos e) (down_pos g) (sym v.1) (sym w.1) (ord-of-le false m e false n g h)

least-value : HasValue least_normal false (2 ^ 23) (2 ^ 149)
least-value = (refl, refl)

pub largest-value : HasValue largest false (16777215 * 2 ^ 253) (2 ^ 149)
largest-value = (refl, refl)

-- ---- v is n units
module _ (v : Float) (n : ℕ) (h : HasValue v false n (2 ^ 149)) where
  pub normal : 2 ^ 23 ≤ n → n ≤ 16777215 * 2 ^ 253 → positive_normal v ≡ true
  normal l u =
      is_true (positive_normal v)
      (and_i (le least_normal v) (le v largest)
      (le_of_values least_normal v (2 ^ 23) (2 ^ 149) n (2 ^ 149) (pow_pos 149) (pow_pos 149) least-value h (mul-le-mul_right (2 ^ 149) l))
      (le_of_values v largest n (2 ^ 149) (16777215 * 2 ^ 253) (2 ^ 149) (pow_pos 149) (pow_pos 149) h largest-value (mul-le-mul_right (2 ^ 149) u)))

  pub too_small : n < 2 ^ 23 → positive_normal v ≡ false
  too_small l =
      is_false (positive_normal v)
      (not_T (positive_normal v) (λ (t : T (positive_normal v)). not-le_of_lt l
      (le_of_mul-le-mul_right {k = 2 ^ 149} (fractions-of-le least_normal v (2 ^ 23) (2 ^ 149) n (2 ^ 149) least-value h (and_l (le least_normal v) (le v largest) t)) (pow_pos 149))))

  pub too_large : 16777215 * 2 ^ 253 < n → positive_normal v ≡ false
  too_large l =
      is_false (positive_normal v)
      (not_T (positive_normal v) (λ (t : T (positive_normal v)). not-le_of_lt l
      (le_of_mul-le-mul_right {k = 2 ^ 149} (fractions-of-le v largest n (2 ^ 149) (16777215 * 2 ^ 253) (2 ^ 149) h largest-value (and_r (le least_normal v) (le v largest) t)) (pow_pos 149))))

pub units-are : (v : Float) (n : ℕ) → HasValue v false n (2 ^ 149) → units_of v ≡ n
unfolding units_of
units-are nan n h = absurd h
units-are (inf s) n h = absurd h
units-are (fin true m e) n h = absurd (true≢false h.0)
units-are (fin false m e) n h = ap (λ (z : ℕ). z / down e) h.1 ∙ mul-div_cancel n (down_pos e)

-- ---- what is none: a NaN, an infinity, a negative number
pub nan-not : positive_normal nan ≡ false
unfolding le
nan-not = refl

inf-not : (s : Bool) → positive_normal (inf s) ≡ false
unfolding le
inf-not true = refl
inf-not false = refl

negative-not : (m : ℕ) (e : ℤ) → positive_normal (fin true m e) ≡ false
negative-not m e =
    is_false (positive_normal (fin true m e))
    (not_T (positive_normal (fin true m e)) (λ (t : T (positive_normal (fin true m e))). none (ord-of-le false 1 (negsuc 125) true m e (and_l (le least_normal (fin true m e)) (le (fin true m e) largest) t)).0))
  where
    none : 1 * down e ≡ 0 → ⊥
    none z = let p = down_pos e in omega arith

-- ---- by the parts of v
pub negative-parts : (v : Float) (m k : ℕ) → Decoded v true m k → positive_normal v ≡ false
negative-parts nan m k d = nan-not
negative-parts (inf s) m k d = inf-not s
negative-parts (fin true n e) m k d = negative-not n e
negative-parts (fin false n e) m k d = absurd (true≢false (sym d.sign))

pub subnormal-parts : (v : Float) (m k : ℕ) → Decoded v false m k → m < 2 ^ 23 → positive_normal v ≡ false
subnormal-parts nan m k d h = nan-not
subnormal-parts (inf s) m k d h = inf-not s
subnormal-parts (fin s n e) m k d h = too_small (fin s n e) (m * 2 ^ k) (d.sign, d.value) (rw (least, mul-one m) h)
  where
    least : k ≡ 0
    least = elim (eq-zero-or-pos k) [ inl z ↦ z | inr p ↦ absurd (not-le_of_lt h (d.full p)) ]

pub infinite-parts : (v : Float) (m k : ℕ) → Decoded v false m k → 2 ^ 23 ≤ m → 253 < k → positive_normal v ≡ false
infinite-parts nan m k d l h = nan-not
infinite-parts (inf s) m k d l h = inf-not s
infinite-parts (fin s n e) m k d l h =
    too_large (fin s n e) (m * 2 ^ k) (d.sign, d.value) (lt_of_lt_of_le (lit< tt) (le_trans (le_of_eq (pow-add 2 23 254)) (mul-le-mul l (pow_mono h))))

module _ (m k : ℕ) (l : 2 ^ 23 ≤ m) (u : m < 2 ^ 24) (h : k ≤ 253) where
  pub from-least : 2 ^ 23 ≤ m * 2 ^ k
  from-least = le_trans (le_of_eq (sym (mul-one (2 ^ 23)))) (mul-le-mul l (pow_pos k))

  pub to-largest : m * 2 ^ k ≤ 16777215 * 2 ^ 253
  to-largest = mul-le-mul (le_of_suc-le-suc u) (pow_mono h)

pub normal-parts : (v : Float) (m k : ℕ) → Decoded v false m k → 2 ^ 23 ≤ m → k ≤ 253 → HasValue v false (m * 2 ^ k) (2 ^ 149)
normal-parts nan m k d l h = absurd (not-le_of_lt (lit< tt) (le_trans (from-least m k l d.small h) (le_of_eq (sym (mul-one (m * 2 ^ k)) ∙ sym d.value))))
normal-parts (inf s) m k d l h = absurd (not-le_of_lt (lit< tt) (le_trans (le_of_eq (d.value ∙ mul-one (m * 2 ^ k))) (to-largest m k l d.small h)))
normal-parts (fin s n e) m k d l h = (d.sign, d.value)

-- ---- any v that is positive and normal
pub units-low : (v : Float) → T (positive_normal v) → 2 ^ 23 ≤ units_of v
unfolding units_of
units-low nan t = absurd (subst T nan-not t)
units-low (inf s) t = absurd (subst T (inf-not s) t)
units-low (fin true n e) t = absurd (subst T (negative-not n e) t)
units-low (fin false n e) t =
    (le-div_iff_mul-le (down_pos e)).1
    (le_trans (le_of_eq (mul_comm (2 ^ 23) (down e)))
    (le_trans (mul-le-mul_right (2 ^ 23) (le_trans (le_of_eq (sym (one-mul (down e)))) order)) (le_of_eq (mul_assoc (n * up e) (2 ^ 126) (2 ^ 23)))))
  where
    order : 1 * down e ≤ n * up e * 2 ^ 126
    order = ord-of-le false 1 (negsuc 125) false n e (and_l (le least_normal (fin false n e)) (le (fin false n e) largest) t)

pub units_mono : (v v' : Float) → T (positive_normal v) → T (positive_normal v') → T (le v v') → units_of v ≤ units_of v'
unfolding units_of
units_mono nan v' t t' h = absurd (subst T nan-not t)
units_mono (inf s) v' t t' h = absurd (subst T (inf-not s) t)
units_mono (fin true n e) v' t t' h = absurd (subst T (negative-not n e) t)
units_mono (fin false n e) nan t t' h = absurd (subst T nan-not t')
units_mono (fin false n e) (inf s) t t' h = absurd (subst T (inf-not s) t')
units_mono (fin false n e) (fin true m g) t t' h = absurd (subst T (negative-not m g) t')
units_mono (fin false n e) (fin false m g) t t' h =
    div_mono (n * up e * 2 ^ 149) (down e) (m * up g * 2 ^ 149) (down g) (down_pos e) (down_pos g)
    (le_trans (le_of_eq (mul_right_comm (n * up e) (2 ^ 149) (down g)))
    (le_trans (mul-le-mul_right (2 ^ 149) (ord-of-le false n e false m g h)) (le_of_eq (mul_right_comm (m * up g) (down e) (2 ^ 149)))))
