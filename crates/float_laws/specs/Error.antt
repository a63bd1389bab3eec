-- How far a rounded value lies from the fraction: at most one part in 2 ^ prec of it, and half a
-- unit of the smallest value besides where the fraction is no whole number of units. Assumes
-- nothing.
use Rattle.std.specs.Prelude.{◌≡◌, false, not, T, eqb, Float}
use Rattle.std.proofs.Common.{sym, ap, ◌∙◌, subst, inl, inr, one-mul, mul-one, mul_comm, mul_assoc, mul_left_comm, mul_right_comm, add-mul, mul-add, mul-pos, eq-zero-or-pos, le_of_eq, le_trans, mul-le-mul_right, mul-le-mul_left, le-div_iff_mul-le, div-add-mod', mod-lt, suc-mul, le_of_mul-le-mul_right, arith, pow-add, pow_pos, leb→le, eqb→eq}
use Prim.Native.Nat.{ℕ, ◌+◌, ◌-◌, ◌*◌, ◌/◌, ◌%◌, ◌^◌, ◌≤◌, ◌<◌, compare, Ordering}
use Rattle.std.proofs.Math.Nat.{eq_of_mul-eq-mul_right}
use Rattle.std.proofs.Math.Dec.{is_le, compare_is_eq, nleb→lt, eqb_refl}
use Rattle.std.proofs.Math.Arith.{lt_of_le-ne}
use Rattle.std.specs.Float.{nan, inf, fin, Format}
use Rattle.std.specs.Float.Ieee.{prec, low, size, nearest, round}
use Rattle.std.specs.Float.Ieee.Digits.{size_reaches}
use Rattle.std.specs.Float.Ieee.Fits.{two, two-le_pos, round-fits}
use Rattle.std.specs.Float.Ieee.Nearest.{closest}
use Rattle.std.specs.Float.Ieee.Order.{drop, kept}
use Rattle.std.specs.Float.Ieee.Scale.{overflow, grid, finite, round_val, round_under}
use Rattle.float_laws.specs.Units.{mag, real, real-of-size}
use Rattle.float_laws.specs.Round.{rnd, rnd-mono, rnd-real, round_number, mag-of-value}

abbrev pub Cmp : Ordering → ℕ → ℕ → Type 0
Cmp Ordering.lt a b = a < b
Cmp Ordering.eq a b = a ≡ b
Cmp Ordering.gt a b = b < a

pub cmp : (a b : ℕ) → Cmp (compare a b) a b
cmp a b = go (compare a b) (leb→le a b) (nleb→lt a b) (eqb→eq a b) (λ (e : a ≡ b). subst (λ (x : ℕ). T (eqb a x)) e (eqb_refl a))
  where
    go : (o : Ordering) → (T (is_le o) → a ≤ b) → (T (not (is_le o)) → b < a) → (T (compare_is_eq o) → a ≡ b) → (a ≡ b → T (compare_is_eq o)) → Cmp o a b
    go Ordering.lt h k e n = lt_of_le-ne (h tt) n
    go Ordering.eq h k e n = e tt
    go Ordering.gt h k e n = k tt

-- ---- the nearest whole number to n / u is at most a half away
abbrev Half : ℕ → ℕ → ℕ → Type 0
Half n u v = (2 * (v * u) ≤ 2 * n + u) × (2 * n ≤ 2 * (v * u) + u)

parity : (q : ℕ) → q % 2 ≤ 1
parity q = omega arith

half_of : (q r u n : ℕ) (c : Ordering) → Cmp c (r * 2) u → q * u + r ≡ n → r < u → Half n u (nearest q c)
half_of q r u n Ordering.lt h e l = omega arith
half_of q r u n Ordering.eq h e l =
    let a : (q + q % 2) * u ≡ q * u + q % 2 * u = add-mul q (q % 2) u in
    let b : q % 2 * u ≤ 1 * u = mul-le-mul_right u (parity q) in
    omega (arith, one-mul u)
half_of q r u n Ordering.gt h e l = omega (arith, suc-mul q u)

closest-half : (n u : ℕ) → 0 < u → Half n u (closest n u)
closest-half n u U = half_of (n / u) (n % u) u n (compare (n % u * 2) u) (cmp (n % u * 2) u) (div-add-mod' n u) (mod-lt n U)

-- ---- the unit that a rounding goes to, u = c * 2 ^ drop: where digits are dropped, it is small
-- beside n
digits_in : (z p : ℕ) → 0 < p → 0 < z - p → p - 1 + (z - p) < z
digits_in z p P h = omega arith

unit-small : (p n c : ℕ) → 0 < p → 0 < c → 0 < drop p n c → 2 ^ (p - 1) * (c * 2 ^ drop p n c) ≤ n
unit-small p n c P C K =
    let k = drop p n c in
    let a : 2 ^ (p - 1 + k) * c ≤ n = (le-div_iff_mul-le C).0 (size_reaches (n / c) (p - 1 + k) (digits_in (size (n / c)) p P K)) in
    le_trans (le_of_eq (sym (mul_assoc (2 ^ (p - 1)) c (2 ^ k)) ∙ mul_right_comm (2 ^ (p - 1)) c (2 ^ k) ∙ ap (λ (z : ℕ). z * c) (sym (pow-add 2 (p - 1) k)))) a

unit-one : (p n c : ℕ) → drop p n c ≡ 0 → c * 2 ^ drop p n c ≡ c
unit-one p n c z = ap (λ (k : ℕ). c * 2 ^ k) z ∙ mul-one c

unit-le : (p n c : ℕ) → 0 < p → 0 < c → 2 ^ (p - 1) * (c * 2 ^ drop p n c) ≤ n + 2 ^ (p - 1) * c
unit-le p n c P C =
    elim (eq-zero-or-pos (drop p n c)) [
      | inl z ↦ le_trans (le_of_eq (ap (λ (u : ℕ). 2 ^ (p - 1) * u) (unit-one p n c z))) (omega arith)
      | inr k ↦ omega (arith, unit-small p n c P C k)
    ]

-- ---- a rounded value r, in units, and the fraction n / c, in units: they differ by at most one
-- part in 2 P of the fraction, and half a unit
pub record Within (P n c r : ℕ) : Type 0 where
  pub hi : P * (2 * (r * c)) ≤ P * (2 * n) + (n + P * c)
  pub lo : P * (2 * n) ≤ P * (2 * (r * c)) + (n + P * c)

widen : (P x y u b : ℕ) → x ≤ y + u → P * u ≤ b → P * x ≤ P * y + b
widen P x y u b h k = le_trans (mul-le-mul_left P h) (le_trans (le_of_eq (mul-add P y u)) (omega arith))

grid-times : (p n c : ℕ) → kept p n c * (c * 2 ^ drop p n c) ≡ kept p n c * 2 ^ drop p n c * c
grid-times p n c = ap (λ (z : ℕ). kept p n c * z) (mul_comm c (2 ^ drop p n c)) ∙ sym (mul_assoc (kept p n c) (2 ^ drop p n c) c)

grid-within : (f : Format) (a c : ℕ) → 0 < c → Within (2 ^ (prec f - 1)) (a * 2 ^ low f) c (grid f a c)
grid-within f a c C =
    let p = prec f in
    let n = a * 2 ^ low f in
    let k = drop p n c in
    let u = c * 2 ^ k in
    let h = closest-half n u (mul-pos C (pow_pos k)) in
    let b = unit-le p n c (two-le_pos p (two f)) C in
    let e = grid-times p n c in
    record {
      hi = widen (2 ^ (p - 1)) (2 * (grid f a c * c)) (2 * n) u (n + 2 ^ (p - 1) * c) (subst (λ (z : ℕ). 2 * z ≤ 2 * n + u) e h.0) b;
      lo = widen (2 ^ (p - 1)) (2 * n) (2 * (grid f a c * c)) u (n + 2 ^ (p - 1) * c) (subst (λ (z : ℕ). 2 * n ≤ 2 * z + u) e h.1) b;
    }

-- ---- the same of `rnd`, where the result is finite
finite-real : (f : Format) (x : Float) → T (real f x) → T (finite x)
finite-real f nan p = p
finite-real f (inf s) p = p
finite-real f (fin s m e) p = tt

rnd-grid : (f : Format) (a c : ℕ) → rnd f a c < overflow f → rnd f a c ≡ grid f a c
unfolding rnd
rnd-grid f a c h =
    let r = round f false a c in
    eq_of_mul-eq-mul_right (2 ^ low f) (pow_pos (low f)) (mag f r) (grid f a c)
    (mag-of-value f r false (grid f a c) (2 ^ low f) (round-fits f false a c) (round_val f a c (round_under f a c (finite-real f r (real-of-size f r (round_number f false a c) h)))))

pub rnd-within : (f : Format) (a c : ℕ) → 0 < c → rnd f a c < overflow f → Within (2 ^ (prec f - 1)) (a * 2 ^ low f) c (rnd f a c)
rnd-within f a c C h = subst (λ (z : ℕ). Within (2 ^ (prec f - 1)) (a * 2 ^ low f) c z) (sym (rnd-grid f a c h)) (grid-within f a c C)

-- ---- in the normal range, from 2 ^ (prec - 1) units on: no half unit
pub record Relative (P n c r : ℕ) : Type 0 where
  pub hi : P * (2 * (r * c)) ≤ P * (2 * n) + n
  pub lo : P * (2 * n) ≤ P * (2 * (r * c)) + n

pub rnd-relative : (f : Format) (a c : ℕ) → 0 < c → rnd f a c < overflow f → 2 ^ (prec f - 1) * c ≤ a * 2 ^ low f
    → Relative (2 ^ (prec f - 1)) (a * 2 ^ low f) c (rnd f a c)
rnd-relative f a c C h normal =
    let p = prec f in
    let n = a * 2 ^ low f in
    let u = c * 2 ^ drop p n c in
    let g = closest-half n u (mul-pos C (pow_pos (drop p n c))) in
    let e = grid-times p n c ∙ ap (λ (z : ℕ). z * c) (sym (rnd-grid f a c h)) in
    let b : 2 ^ (p - 1) * u ≤ n = elim (eq-zero-or-pos (drop p n c)) [ inl z ↦ le_trans (le_of_eq (ap (λ (w : ℕ). 2 ^ (p - 1) * w) (unit-one p n c z))) normal | inr k ↦ unit-small p n c (two-le_pos p (two f)) C k ] in
    record {
      hi = widen (2 ^ (p - 1)) (2 * (rnd f a c * c)) (2 * n) u n (subst (λ (z : ℕ). 2 * z ≤ 2 * n + u) e g.0) b;
      lo = widen (2 ^ (p - 1)) (2 * n) (2 * (rnd f a c * c)) u n (subst (λ (z : ℕ). 2 * n ≤ 2 * z + u) e g.1) b;
    }

-- ---- whole units, as a sum has: no half unit
pub record Close (P n r : ℕ) : Type 0 where
  pub hi : P * (2 * r) ≤ P * (2 * n) + n
  pub lo : P * (2 * n) ≤ P * (2 * r) + n

not-over : (v n c : ℕ) → 0 < c → 2 * (v * c) ≤ 2 * (n * c) + c → ¬ (n < v)
not-over v n c C h l = let a = mul-le-mul_right c l in omega (arith, suc-mul n c)

not-under : (v n c : ℕ) → 0 < c → 2 * (n * c) ≤ 2 * (v * c) + c → ¬ (v < n)
not-under v n c C h l = not-over n v c C h l

closest-whole : (n c : ℕ) → 0 < c → closest (n * c) c ≡ n
closest-whole n c C =
    let h = closest-half (n * c) c C in
    let x = not-over (closest (n * c) c) n c C h.0 in
    let y = not-under (closest (n * c) c) n c C h.1 in
    omega arith

strip : (P x y b L : ℕ) → 0 < L → P * (2 * (x * L)) ≤ P * (2 * (y * L)) + b * L → P * (2 * x) ≤ P * (2 * y) + b
strip P x y b L L0 h =
    let e : (z : ℕ) → P * (2 * (z * L)) ≡ P * (2 * z) * L = λ z. simp (mul_assoc, mul_comm, mul_left_comm) in
    le_of_mul-le-mul_right (le_trans (le_of_eq (sym (e x))) (le_trans h (le_of_eq (ap (λ (z : ℕ). z + b * L) (e y) ∙ sym (add-mul (P * (2 * y)) b L))))) L0

whole-at-zero : (p n L : ℕ) → 0 < L → drop p (n * L) L ≡ 0 → kept p (n * L) L * 2 ^ drop p (n * L) L ≡ n
whole-at-zero p n L C z =
    ap (λ (k : ℕ). closest (n * L) (L * 2 ^ k) * 2 ^ k) z
    ∙ mul-one (closest (n * L) (L * 1))
    ∙ ap (λ (u : ℕ). closest (n * L) u) (mul-one L)
    ∙ closest-whole n L C

grid-close : (f : Format) (n : ℕ) → Close (2 ^ (prec f - 1)) n (grid f n (2 ^ low f))
grid-close f n =
    let p = prec f in
    let P = 2 ^ (p - 1) in
    let L = 2 ^ low f in
    let L0 = pow_pos (low f) in
    let k = drop p (n * L) L in
    let u = L * 2 ^ k in
    let h = closest-half (n * L) u (mul-pos L0 (pow_pos k)) in
    let e = grid-times p (n * L) L in
    elim (eq-zero-or-pos k) [
      | inl z ↦
          let w : grid f n L ≡ n = whole-at-zero p n L L0 z in
          let v : P * (2 * grid f n L) ≡ P * (2 * n) = ap (λ (z : ℕ). P * (2 * z)) w in
          record { hi = omega arith; lo = omega arith }
      | inr K ↦
          let b = unit-small p (n * L) L (two-le_pos p (two f)) L0 K in
          record {
            hi = strip P (grid f n L) n n L L0 (widen P (2 * (grid f n L * L)) (2 * (n * L)) u (n * L) (subst (λ (z : ℕ). 2 * z ≤ 2 * (n * L) + u) e h.0) b);
            lo = strip P n (grid f n L) n L L0 (widen P (2 * (n * L)) (2 * (grid f n L * L)) u (n * L) (subst (λ (z : ℕ). 2 * (n * L) ≤ 2 * z + u) e h.1) b);
          }
    ]

pub rnd-close : (f : Format) (n : ℕ) → rnd f n (2 ^ low f) < overflow f → Close (2 ^ (prec f - 1)) n (rnd f n (2 ^ low f))
rnd-close f n h = subst (λ (r : ℕ). Close (2 ^ (prec f - 1)) n r) (sym (rnd-grid f n (2 ^ low f) h)) (grid-close f n)

-- ---- a bound that a finite value gives
pub rnd-at-most : (f : Format) (x : Float) (a c : ℕ) → T (real f x) → 0 < c → a * 2 ^ low f ≤ mag f x * c → rnd f a c ≤ mag f x
rnd-at-most f x a c p C h = le_trans (rnd-mono f a c (mag f x) (2 ^ low f) C (pow_pos (low f)) h) (le_of_eq (rnd-real f x p))

-- ---- for `f32`, with the powers of two written out
-- `omega` takes no number of more than 38 digits, so 2 ^ 149 is kept in a variable
pub hi-32 : (x n c : ℕ) → 8388608 * (2 * x) ≤ 8388608 * (2 * n) + (n + 8388608 * c) → 16777216 * x ≤ 16777217 * n + 8388608 * c
hi-32 x n c h = omega arith

pub lo-32 : (x n c : ℕ) → 8388608 * (2 * n) ≤ 8388608 * (2 * x) + (n + 8388608 * c) → 16777215 * n ≤ 16777216 * x + 8388608 * c
lo-32 x n c h = omega arith
