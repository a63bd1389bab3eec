-- The order laws with the infinities: as in Mono, for all numbers whose results are numbers, so
-- where no infinity meets its opposite in a sum or a zero in a product. A product with, and a
-- quotient by, a finite constant above zero keeps the order of any two values, infinities too;
-- below zero it turns it. Assumes nothing.
use Rattle.std.specs.Prelude.{◌≡◌, refl, Bool, true, false, not, cond, ℕ, ◌*◌, ◌≤◌, ◌<◌, T, ltb, eqb, ℤ, Float}
use Rattle.std.proofs.Common.{sym, ap, ◌∙◌, subst, subst₂, inl, inr, true≢false, zero-mul, mul_comm, mul-pos, mul-le-mul_right, eq-zero-or-pos, le_trans, le_of_eq, lt_irrefl, lt_of_lt_of_le, arith, ltb→lt, lt→ltb, eqb→eq}
use Rattle.std.proofs.Math.Nat.{mul-mul-mul_comm}
use Rattle.std.specs.Float.Ieee.{nan, up, down, is_nan, lt, le, round, neg, unlike, add, sub, mul, div}
use Rattle.std.specs.Float.{inf, fin, Format}
use Rattle.std.specs.Float.Ieee.Fits.{up_pos, down_pos, and_l, eq→eqb}
use Rattle.std.specs.Float.Ieee.Positive.{num, den, positive}
use Rattle.std.specs.Float.Ieee.Scale.{overflow}
use Rattle.float_laws.specs.Units.{mag, number, real, keyed, mag-inf, key→le, real-number}
use Rattle.float_laws.specs.Order.{le-trans-f}
use Rattle.float_laws.specs.Round.{plus_zero, mag-zero, real-zero, rnd, rnd-mono, rnd-zero, key-round, round_number}
use Rattle.float_laws.specs.Signs.{Ord, ord-of-le}
use Rattle.float_laws.specs.Ops.{mul-comm-f, unlike-clear, neg-neg, mul-neg}
use Rattle.float_laws.specs.Mono.{key-high, number-neg, le-neg, add-mono, mul_mono, above_zero}

pub le-top : (f : Format) (x : Float) → T (number f x) → T (le x (inf false))
le-top f x p = key→le f x (inf false) p tt (rw (mag-inf f false) (key-high f x p))

pub le-bottom : (f : Format) (x : Float) → T (number f x) → T (le (inf true) x)
le-bottom f x p = key→le f (inf true) x tt p (rw (mag-inf f true) (omega arith))

under-bottom : (f : Format) (x : Float) → T (number f x) → T (le x (inf true)) → x ≡ inf true
unfolding le
under-bottom f nan p h = absurd p
under-bottom f (inf true) p h = refl
under-bottom f (inf false) p h = absurd h
under-bottom f (fin s m e) p h = absurd h

over-top : (f : Format) (x : Float) → T (number f x) → T (le (inf false) x) → x ≡ inf false
unfolding le
over-top f nan p h = absurd p
over-top f (inf true) p h = absurd h
over-top f (inf false) p h = refl
over-top f (fin s m e) p h = absurd h

-- ---- the sum
add-inf-l : (f : Format) (s : Bool) (y : Float) → T (number f (add f (inf s) y)) → add f (inf s) y ≡ inf s
unfolding add
add-inf-l f s nan h = absurd h
add-inf-l f true (inf true) h = refl
add-inf-l f true (inf false) h = absurd h
add-inf-l f false (inf true) h = absurd h
add-inf-l f false (inf false) h = refl
add-inf-l f s (fin t n d) h = refl

add-inf-r : (f : Format) (x : Float) (t : Bool) → T (number f (add f x (inf t))) → add f x (inf t) ≡ inf t
unfolding add
add-inf-r f nan t h = absurd h
add-inf-r f (inf true) true h = refl
add-inf-r f (inf true) false h = absurd h
add-inf-r f (inf false) true h = absurd h
add-inf-r f (inf false) false h = refl
add-inf-r f (fin s m e) t h = refl

-- ---- a number is the least one, the greatest one or finite
data Kind (f : Format) (x : Float) : Type 0 where
  bottom : x ≡ inf true → Kind f x
  top : x ≡ inf false → Kind f x
  finite : T (real f x) → Kind f x

kind : (f : Format) (x : Float) → T (number f x) → Kind f x
kind f nan p = absurd p
kind f (inf true) p = bottom refl
kind f (inf false) p = top refl
kind f (fin s m e) p = finite p

module _ (f : Format) (z z' : Float) (p : T (number f z)) (p' : T (number f z')) where
  ends : z' ≡ inf false → T (le z z')
  ends e = subst (λ (w : Float). T (le z w)) (sym e) (le-top f z p)

  starts : z ≡ inf true → T (le z z')
  starts e = subst (λ (w : Float). T (le w z')) (sym e) (le-bottom f z' p')

  rises : z ≡ inf false → T (le z z') → z' ≡ inf false
  rises e h = over-top f z' p' (subst (λ (w : Float). T (le w z')) e h)

  falls : z' ≡ inf true → T (le z z') → z ≡ inf true
  falls e h = under-bottom f z p (subst (λ (w : Float). T (le z w)) e h)

sum-l : (f : Format) (s : Bool) (x y : Float) → x ≡ inf s → T (number f (add f x y)) → add f x y ≡ inf s
sum-l f s x y e h = ap (λ (w : Float). add f w y) e ∙ add-inf-l f s y (subst (λ (w : Float). T (number f (add f w y))) e h)

sum_r : (f : Format) (s : Bool) (x y : Float) → y ≡ inf s → T (number f (add f x y)) → add f x y ≡ inf s
sum_r f s x y e h = ap (λ (w : Float). add f x w) e ∙ add-inf-r f x s (subst (λ (w : Float). T (number f (add f x w))) e h)

module _ (f : Format) (x x' y y' : Float) (p : T (number f x)) (p' : T (number f x')) (q : T (number f y)) (q' : T (number f y')) where
  pub add-mono-inf : T (number f (add f x y)) → T (number f (add f x' y')) → T (le x x') → T (le y y') → T (le (add f x y) (add f x' y'))
  add-mono-inf r r' h k = go (kind f x p) (kind f y q) (kind f x' p') (kind f y' q')
    where
      low_end : add f x y ≡ inf true → T (le (add f x y) (add f x' y'))
      low_end = starts f (add f x y) (add f x' y') r r'

      high_end : add f x' y' ≡ inf false → T (le (add f x y) (add f x' y'))
      high_end = ends f (add f x y) (add f x' y') r r'

      go : Kind f x → Kind f y → Kind f x' → Kind f y' → T (le (add f x y) (add f x' y'))
      go (bottom e) b c d = low_end (sum-l f true x y e r)
      go (top e) b c d = high_end (sum-l f false x' y' (rises f x x' p p' e h) r')
      go (finite a) (bottom e) c d = low_end (sum_r f true x y e r)
      go (finite a) (top e) c d = high_end (sum_r f false x' y' (rises f y y' q q' e k) r')
      go (finite a) (finite b) (bottom e) d = low_end (sum-l f true x y (falls f x x' p p' e h) r)
      go (finite a) (finite b) (top e) d = high_end (sum-l f false x' y' e r')
      go (finite a) (finite b) (finite c) (bottom e) = low_end (sum_r f true x y (falls f y y' q q' e k) r)
      go (finite a) (finite b) (finite c) (top e) = high_end (sum_r f false x' y' e r')
      go (finite a) (finite b) (finite c) (finite d) = add-mono f x x' y y' a c b d h k

pub sub-mono-inf : (f : Format) (x x' y y' : Float) → T (number f x) → T (number f x') → T (number f y) → T (number f y') → T (number f (sub f x y))
    → T (number f (sub f x' y'))
    → T (le x x') → T (le y' y) → T (le (sub f x y) (sub f x' y'))
unfolding sub
sub-mono-inf f x x' y y' p p' q q' r r' h k = add-mono-inf f x x' (neg y) (neg y') p p' (number-neg f y q) (number-neg f y' q') r r' h (le-neg f y' y q' q k)

-- ---- the product of two that are not negative
no-bottom : (f : Format) (x : Float) → T (le plus_zero x) → x ≡ inf true → ⊥
no-bottom f x h e = bad (subst (λ (w : Float). T (le plus_zero w)) e h)
  where
    bad : T (le plus_zero (inf true)) → ⊥
    bad t = unfold le in t

no_size : (n u w : ℕ) → 0 * 1 * w ≡ n * u * 1 → 0 < u → n ≡ 0
no_size n u w e U = elim (eq-zero-or-pos n) [ inl z ↦ z | inr p ↦ absurd (omega (arith, zero-mul w, mul-pos p U)) ]

mul-top-l : (f : Format) (y : Float) → T (le plus_zero y) → T (number f (mul f (inf false) y)) → mul f (inf false) y ≡ inf false
unfolding mul le
mul-top-l f nan h r = absurd r
mul-top-l f (inf true) h r = absurd h
mul-top-l f (inf false) h r = refl
mul-top-l f (fin false n d) h r = go (eqb n 0) r
  where
    go : (b : Bool) → T (number f (cond b nan (inf false))) → cond b nan (inf false) ≡ inf false
    go true t = absurd t
    go false t = refl
mul-top-l f (fin true n d) h r =
    go (eqb n 0) r
    (eq→eqb (no_size n (up d) (down d) (eqb→eq (0 * 1 * down d) (n * up d * 1) (and_l (eqb (0 * 1 * down d) (n * up d * 1)) (eqb (0 * 1 * down d) 0) h)) (up_pos d)))
  where
    go : (b : Bool) → T (number f (cond b nan (inf true))) → T b → cond b nan (inf true) ≡ inf false
    go true t u = absurd t
    go false t u = absurd u

module _ (f : Format) (x x' y y' : Float) (p : T (number f x)) (p' : T (number f x')) (q : T (number f y)) (q' : T (number f y')) where
  pub mul-mono-inf : T (le plus_zero x) → T (le plus_zero y) → T (number f (mul f x y)) → T (number f (mul f x' y')) → T (le x x') → T (le y y')
      → T (le (mul f x y) (mul f x' y'))
  mul-mono-inf X Y r r' h k = go (kind f x p) (kind f y q) (kind f x' p') (kind f y' q')
    where
      zero-real : T (number f plus_zero)
      zero-real = real-number f plus_zero (real-zero f false)

      X' : T (le plus_zero x')
      X' = le-trans-f f plus_zero x x' zero-real p p' X h

      Y' : T (le plus_zero y')
      Y' = le-trans-f f plus_zero y y' zero-real q q' Y k

      high_end : mul f x' y' ≡ inf false → T (le (mul f x y) (mul f x' y'))
      high_end = ends f (mul f x y) (mul f x' y') r r'

      by_left : x' ≡ inf false → T (le (mul f x y) (mul f x' y'))
      by_left e = high_end (ap (λ (w : Float). mul f w y') e ∙ mul-top-l f y' Y' (subst (λ (w : Float). T (number f (mul f w y'))) e r'))

      by_right : y' ≡ inf false → T (le (mul f x y) (mul f x' y'))
      by_right e =
          high_end
          (mul-comm-f f x' y' ∙ ap (λ (w : Float). mul f w x') e ∙ mul-top-l f x' X' (subst (λ (w : Float). T (number f w)) (mul-comm-f f x' y' ∙ ap (λ (w : Float). mul f w x') e) r'))

      go : Kind f x → Kind f y → Kind f x' → Kind f y' → T (le (mul f x y) (mul f x' y'))
      go (bottom e) b c d = absurd (no-bottom f x X e)
      go (top e) b c d = by_left (rises f x x' p p' e h)
      go (finite a) (bottom e) c d = absurd (no-bottom f y Y e)
      go (finite a) (top e) c d = by_right (rises f y y' q q' e k)
      go (finite a) (finite b) (bottom e) d = absurd (no-bottom f x' X' e)
      go (finite a) (finite b) (top e) d = by_left e
      go (finite a) (finite b) (finite c) (bottom e) = absurd (no-bottom f y' Y' e)
      go (finite a) (finite b) (finite c) (top e) = by_right e
      go (finite a) (finite b) (finite c) (finite d) = mul_mono f x x' y y' a c b d X Y h k

-- ---- the product with, and the quotient by, a constant that is finite and not zero: of any two
-- values in order, whether or not they fit the format
no-size-of : (a d : ℕ) → 0 < d → a * d ≡ 0 → a ≡ 0
no-size-of a d D h = elim (eq-zero-or-pos a) [ inl z ↦ z | inr p ↦ absurd (omega (arith, mul-pos p D)) ]

-- ±a / c ≤ ±b / d gives the rounded values in that order
pub round-ord : (f : Format) (s : Bool) (a c : ℕ) (t : Bool) (b d : ℕ) → 0 < c → 0 < d → Ord s (a * d) t (b * c) → T (le (round f s a c) (round f t b d))
round-ord f s a c t b d C D h =
    key→le f (round f s a c) (round f t b d) (round_number f s a c) (round_number f t b d) (rw (key-round f s a c, key-round f t b d) (keys s t h))
  where
    nothing : (n k m : ℕ) → 0 < k → 0 < m → n * m ≡ 0 → rnd f n k ≡ 0
    nothing n k m K M e = ap (λ (z : ℕ). rnd f z k) (no-size-of n m M e) ∙ rnd-zero f k K

    keys : (s t : Bool) → Ord s (a * d) t (b * c) → keyed (overflow f) s (rnd f a c) ≤ keyed (overflow f) t (rnd f b d)
    keys false false h = omega (arith, rnd-mono f a c b d C D h)
    keys false true h = omega (arith, nothing a c d C D h.0, nothing b d c D C h.1)
    keys true false h = omega arith
    keys true true h = omega (arith, rnd-mono f b d a c D C h)

ord-scale : (s : Bool) (x : ℕ) (t : Bool) (y k x' y' : ℕ) → x * k ≡ x' → y * k ≡ y' → Ord s x t y → Ord s x' t y'
ord-scale false x false y k x' y' p q h = le_trans (le_of_eq (sym p)) (le_trans (mul-le-mul_right k h) (le_of_eq q))
ord-scale false x true y k x' y' p q h = (sym p ∙ ap (λ (z : ℕ). z * k) h.0 ∙ zero-mul k, sym q ∙ ap (λ (z : ℕ). z * k) h.1 ∙ zero-mul k)
ord-scale true x false y k x' y' p q h = tt
ord-scale true x true y k x' y' p q h = le_trans (le_of_eq (sym q)) (le_trans (mul-le-mul_right k h) (le_of_eq p))

-- g leaves the infinities, and of a finite value it is the rounding of its multiple by k / l
record Multiple (f : Format) (g : Float → Float) (k l : ℕ) : Type 0 where
  divisor : 0 < l
  far : (s : Bool) → g (inf s) ≡ inf s
  near : (s : Bool) (m : ℕ) (e : ℤ) → g (fin s m e) ≡ round f s (m * up e * k) (down e * l)

module _ (f : Format) (g : Float → Float) (k l : ℕ) (G : Multiple f g k l) where
  multiple-number : (x : Float) → T (not (is_nan x)) → T (number f (g x))
  unfolding is_nan
  multiple-number nan h = absurd h
  multiple-number (inf s) h = rw (G.far s) tt
  multiple-number (fin s m e) h = rw (G.near s m e) (round_number f s (m * up e * k) (down e * l))

  multiple-mono : (x y : Float) → T (le x y) → T (le (g x) (g y))
  unfolding le is_nan
  multiple-mono nan y h = absurd h
  multiple-mono (inf true) nan h = absurd h
  multiple-mono (inf true) (inf t) h = rw (G.far true) (le-bottom f (g (inf t)) (multiple-number (inf t) tt))
  multiple-mono (inf true) (fin t n d) h = rw (G.far true) (le-bottom f (g (fin t n d)) (multiple-number (fin t n d) tt))
  multiple-mono (inf false) nan h = absurd h
  multiple-mono (inf false) (inf true) h = absurd h
  multiple-mono (inf false) (inf false) h = rw (G.far false) tt
  multiple-mono (inf false) (fin t n d) h = absurd h
  multiple-mono (fin s m e) nan h = absurd h
  multiple-mono (fin s m e) (inf true) h = absurd h
  multiple-mono (fin s m e) (inf false) h = rw (G.far false) (le-top f (g (fin s m e)) (multiple-number (fin s m e) tt))
  multiple-mono (fin s m e) (fin t n d) h =
      rw (G.near s m e, G.near t n d)
      (round-ord f s (m * up e * k) (down e * l) t (n * up d * k) (down d * l) (mul-pos (down_pos e) G.divisor) (mul-pos (down_pos d) G.divisor)
      (ord-scale s (m * up e * down d) t (n * up d * down e) (k * l) (m * up e * k * (down d * l)) (n * up d * k * (down e * l))
      (mul-mul-mul_comm (m * up e) (down d) k l) (mul-mul-mul_comm (n * up d) (down e) k l) (ord-of-le s m e t n d h)))

-- a product with, and a quotient by, a finite value above zero is such a multiple
not-zero : (n : ℕ) → T (ltb 0 n) → T (eqb n 0) → ⊥
not-zero n p e = lt_irrefl 0 (lt_of_lt_of_le (ltb→lt 0 n p) (le_of_eq (eqb→eq n 0 e)))

as-factor : (f : Format) (z : Float) → T (positive z) → Multiple f (λ x. mul f x z) (num z) (den z)
unfolding mul
as-factor f nan p = absurd p
as-factor f (inf t) p = absurd p
as-factor f (fin true n d) p = absurd p
as-factor f (fin false n d) p =
    record {
      divisor = down_pos d;
      far = λ s. go s (eqb n 0) (not-zero n p);
      near = λ s m e. ap (λ (b : Bool). round f b (m * up e * (n * up d)) (down e * down d)) (unlike-clear s false refl);
    }
  where
    go : (s b : Bool) → (T b → ⊥) → cond b nan (inf (unlike s false)) ≡ inf s
    go s true e = absurd (e tt)
    go s false e = ap inf (unlike-clear s false refl)

as-divisor : (f : Format) (z : Float) → T (positive z) → Multiple f (λ x. div f x z) (den z) (num z)
unfolding div
as-divisor f nan p = absurd p
as-divisor f (inf t) p = absurd p
as-divisor f (fin true n d) p = absurd p
as-divisor f (fin false n d) p =
    record { divisor = mul-pos (ltb→lt 0 n p) (up_pos d); far = λ s. ap inf (unlike-clear s false refl); near = λ s m e. go s m e (eqb n 0) (not-zero n p) }
  where
    go : (s : Bool) (m : ℕ) (e : ℤ) (b : Bool) → (T b → ⊥)
        → cond b (cond (eqb m 0) nan (inf (unlike s false))) (round f (unlike s false) (m * up e * down d) (n * up d * down e)) ≡ round f s (m * up e * down d) (down e * (n * up d))
    go s m e true h = absurd (h tt)
    go s m e false h =
        ap (λ (b : Bool). round f b (m * up e * down d) (n * up d * down e)) (unlike-clear s false refl)
        ∙ ap (λ (z : ℕ). round f s (m * up e * down d) z) (mul_comm (n * up d) (down e))

module _ (f : Format) (z : Float) (p : T (positive z)) where
  pub mul-by-number : (x : Float) → T (not (is_nan x)) → T (number f (mul f x z))
  mul-by-number = multiple-number f (λ x. mul f x z) (num z) (den z) (as-factor f z p)

  pub mul-by : (x y : Float) → T (le x y) → T (le (mul f x z) (mul f y z))
  mul-by = multiple-mono f (λ x. mul f x z) (num z) (den z) (as-factor f z p)

  pub div-by-number : (x : Float) → T (not (is_nan x)) → T (number f (div f x z))
  div-by-number = multiple-number f (λ x. div f x z) (den z) (num z) (as-divisor f z p)

  pub div-by : (x y : Float) → T (le x y) → T (le (div f x z) (div f y z))
  div-by = multiple-mono f (λ x. div f x z) (den z) (num z) (as-divisor f z p)

-- such a constant is what compares above zero
pub positive-above : (f : Format) (z : Float) → T (real f z) → T (lt plus_zero z) → T (positive z)
positive-above f nan r h = absurd r
positive-above f (inf s) r h = absurd r
positive-above f (fin s n d) r h = go s n (above_zero f (fin s n d) r h)
  where
    go : (s : Bool) (n : ℕ) → (s ≡ false) × (0 < mag f (fin s n d)) → T (positive (fin s n d))
    go true n h = true≢false h.0
    go false n h =
        elim (eq-zero-or-pos n) [ inl e ↦ absurd (omega (arith, h.1, ap (λ (w : ℕ). mag f (fin false w d)) e, mag-zero f false d)) | inr p ↦ lt→ltb 0 n p ]

-- below zero the order is reversed, since the negative of the image is one that keeps it
not-nan : (x y : Float) → T (le x y) → T (not (is_nan x)) × T (not (is_nan y))
unfolding le is_nan
not-nan nan y h = absurd h
not-nan (inf s) nan h = absurd h
not-nan (inf s) (inf t) h = (tt, tt)
not-nan (inf s) (fin t n d) h = (tt, tt)
not-nan (fin s m e) nan h = absurd h
not-nan (fin s m e) (inf t) h = (tt, tt)
not-nan (fin s m e) (fin t n d) h = (tt, tt)

turned : (f : Format) (h g : Float → Float) → ((x : Float) → g x ≡ neg (h x)) → ((x : Float) → T (not (is_nan x)) → T (number f (g x)))
    → ((x y : Float) → T (le x y) → T (le (g x) (g y))) → (x y : Float) → T (le x y) → T (le (h y) (h x))
turned f h g e n m x y l =
    let w = not-nan x y l in
    subst₂ (λ (a b : Float). T (le a b)) (ap neg (e y) ∙ neg-neg (h y)) (ap neg (e x) ∙ neg-neg (h x))
    (le-neg f (g x) (g y) (n x w.0) (n y w.1) (m x y l))

module _ (f : Format) (z : Float) (p : T (positive (neg z))) where
  pub mul-by-turns : (x y : Float) → T (le x y) → T (le (mul f y z) (mul f x z))
  mul-by-turns = turned f (λ x. mul f x z) (λ x. mul f x (neg z)) (λ x. mul-neg f x z) (mul-by-number f (neg z) p) (mul-by f (neg z) p)
