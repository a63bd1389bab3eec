-- The operations on finite values, in units of the format's smallest value: each is one rounding of
-- a fraction of whole numbers. Assumes nothing.
use Rattle.std.specs.Prelude.{◌≡◌, refl, Bool, true, false, not, ◌&&◌, cond, ℕ, ◌+◌, ◌-◌, ◌*◌, ◌^◌, ◌<◌, ℤ, T, ltb, eqb, Float}
use Rattle.std.proofs.Common.{sym, ◌∙◌, subst, true≢false, mul_comm, mul_assoc, mul_left_comm, mul_right_comm, mul-pos, add-mul, lt_irrefl, pow_pos, ltb→lt, lt→ltb, eqb→eq}
use Rattle.std.proofs.Math.Path.{ap}
use Rattle.std.specs.Bool.{beq}
use Rattle.std.proofs.Math.Nat.{mul-mul-mul_comm, eq_of_mul-eq-mul_right}
use Rattle.std.specs.Float.{nan, inf, fin, Format}
use Rattle.std.specs.Float.Ieee.{up, down, low, fits, round, neg, unlike, sum, add, mul, div}
use Rattle.std.specs.Float.Ieee.Fits.{down_pos, neg-fits}
use Rattle.std.specs.Float.Ieee.Positive.{first_pos}
use Rattle.std.specs.Float.Ieee.Scale.{round_same}
use Rattle.float_laws.specs.Units.{mag, sign, real, mag-exact, scaled-lt}
use Rattle.float_laws.specs.Round.{mag-zero, sign-round, round-neg, squared-pos, mag-neg}
use Rattle.float_laws.specs.Signs.{sub-mul}

-- ---- the product
mul-fin : (f : Format) (s : Bool) (m : ℕ) (e : ℤ) (t : Bool) (n : ℕ) (d : ℤ) → T (fits f (fin s m e)) → T (fits f (fin t n d))
    → mul f (fin s m e) (fin t n d) ≡ round f (unlike s t) (mag f (fin s m e) * mag f (fin t n d)) (2 ^ low f * 2 ^ low f)
unfolding mul
mul-fin f s m e t n d h k =
    let L = 2 ^ low f in
    let x = mag f (fin s m e) in
    let y = mag f (fin t n d) in
    round_same f (unlike s t) (m * up e * (n * up d)) (down e * down d) (x * y) (L * L) (mul-pos (down_pos e) (down_pos d)) (squared-pos f)
    (mul-mul-mul_comm (m * up e) (n * up d) L L
    ∙ ap (λ (z : ℕ). z * (n * up d * L)) (sym (mag-exact f s m e h))
    ∙ ap (λ (z : ℕ). x * down e * z) (sym (mag-exact f t n d k))
    ∙ mul-mul-mul_comm x (down e) y (down d))

pub mul-round : (f : Format) (x y : Float) → T (real f x) → T (real f y)
    → mul f x y ≡ round f (unlike (sign x) (sign y)) (mag f x * mag f y) (2 ^ low f * 2 ^ low f)
mul-round f nan y p q = absurd p
mul-round f (inf s) y p q = absurd p
mul-round f (fin s m e) nan p q = absurd q
mul-round f (fin s m e) (inf t) p q = absurd q
mul-round f (fin s m e) (fin t n d) p q = mul-fin f s m e t n d p q

pub mul-sign : (f : Format) (x y : Float) → T (real f x) → T (real f y) → sign (mul f x y) ≡ unlike (sign x) (sign y)
mul-sign f x y p q = ap sign (mul-round f x y p q) ∙ sign-round f (unlike (sign x) (sign y)) (mag f x * mag f y) (2 ^ low f * 2 ^ low f)

-- with a clear sign the other stays
pub unlike-clear : (s t : Bool) → t ≡ false → unlike s t ≡ s
unlike-clear true false h = refl
unlike-clear false false h = refl
unlike-clear s true h = absurd (true≢false h)

-- of any two values
unlike-comm : (s t : Bool) → unlike s t ≡ unlike t s
unlike-comm true true = refl
unlike-comm true false = refl
unlike-comm false true = refl
unlike-comm false false = refl

pub mul-comm-f : (f : Format) (x y : Float) → mul f x y ≡ mul f y x
unfolding mul
mul-comm-f f nan nan = refl
mul-comm-f f nan (inf t) = refl
mul-comm-f f nan (fin t n d) = refl
mul-comm-f f (inf s) nan = refl
mul-comm-f f (inf s) (inf t) = ap inf (unlike-comm s t)
mul-comm-f f (inf s) (fin t n d) = ap (λ (b : Bool). cond (eqb n 0) nan (inf b)) (unlike-comm s t)
mul-comm-f f (fin s m e) nan = refl
mul-comm-f f (fin s m e) (inf t) = ap (λ (b : Bool). cond (eqb m 0) nan (inf b)) (unlike-comm s t)
mul-comm-f f (fin s m e) (fin t n d) =
    ap (λ (b : Bool). round f b (m * up e * (n * up d)) (down e * down d)) (unlike-comm s t)
    ∙ ap (λ (z : ℕ). round f (unlike t s) z (down e * down d)) (mul_comm (m * up e) (n * up d))
    ∙ ap (λ (z : ℕ). round f (unlike t s) (n * up d * (m * up e)) z) (mul_comm (down e) (down d))

-- ---- the quotient, by what is not zero
div-fin : (f : Format) (s : Bool) (m : ℕ) (e : ℤ) (t : Bool) (n : ℕ) (d : ℤ) → T (fits f (fin s m e)) → T (fits f (fin t n d)) → 0 < mag f (fin t n d)
    → div f (fin s m e) (fin t n d) ≡ round f (unlike s t) (mag f (fin s m e)) (mag f (fin t n d))
unfolding div
div-fin f s m e t n d h k N = go (eqb n 0) (eqb→eq n 0)
  where
    go : (b : Bool) → (T b → n ≡ 0)
        → cond b (cond (eqb m 0) nan (inf (unlike s t))) (round f (unlike s t) (m * up e * down d) (n * up d * down e)) ≡ round f (unlike s t) (mag f (fin s m e)) (mag f (fin t n d))
    go true z = absurd (lt_irrefl 0 (subst (λ (w : ℕ). 0 < w) (ap (λ (w : ℕ). mag f (fin t w d)) (z tt) ∙ mag-zero f t d) N))
    go false z =
        let L = 2 ^ low f in
        let x = mag f (fin s m e) in
        let y = mag f (fin t n d) in
        let P : 0 < n * up d = first_pos (n * up d) L (subst (λ (w : ℕ). 0 < w) (mag-exact f t n d k) (mul-pos N (down_pos d))) in
        let l : m * up e * down d * y * L ≡ m * up e * L * (y * down d) = simp (mul_assoc, mul_comm, mul_left_comm) in
        let r : x * down e * (n * up d * L) ≡ x * (n * up d * down e) * L = simp (mul_assoc, mul_comm, mul_left_comm) in
        round_same f (unlike s t) (m * up e * down d) (n * up d * down e) x y (mul-pos P (down_pos e)) N
        (eq_of_mul-eq-mul_right L (pow_pos (low f)) (m * up e * down d * y) (x * (n * up d * down e))
        (l ∙ ap (λ (z : ℕ). z * (y * down d)) (sym (mag-exact f s m e h)) ∙ ap (λ (z : ℕ). x * down e * z) (mag-exact f t n d k) ∙ r))

pub div-round : (f : Format) (x y : Float) → T (real f x) → T (real f y) → 0 < mag f y → div f x y ≡ round f (unlike (sign x) (sign y)) (mag f x) (mag f y)
div-round f nan y p q N = absurd p
div-round f (inf s) y p q N = absurd p
div-round f (fin s m e) nan p q N = absurd q
div-round f (fin s m e) (inf t) p q N = absurd q
div-round f (fin s m e) (fin t n d) p q N = div-fin f s m e t n d p q N

pub div-sign : (f : Format) (x y : Float) → T (real f x) → T (real f y) → 0 < mag f y → sign (div f x y) ≡ unlike (sign x) (sign y)
div-sign f x y p q N = ap sign (div-round f x y p q N) ∙ sign-round f (unlike (sign x) (sign y)) (mag f x) (mag f y)

-- ---- the sum
bool-ext : (x y : Bool) → (T x → T y) → (T y → T x) → x ≡ y
bool-ext true true h k = refl
bool-ext true false h k = absurd (h tt)
bool-ext false true h k = absurd (k tt)
bool-ext false false h k = refl

ltb-same : (a b c a' b' c' : ℕ) → 0 < c → 0 < c' → a * c' ≡ a' * c → b * c' ≡ b' * c → ltb a b ≡ ltb a' b'
ltb-same a b c a' b' c' C C' p q =
    bool-ext (ltb a b) (ltb a' b')
    (λ (h : T (ltb a b)). lt→ltb a' b' (scaled-lt a b a' b' c' c C' p q (ltb→lt a b h)))
    (λ (h : T (ltb a' b')). lt→ltb a b (scaled-lt a' b' a b c c' C (sym p) (sym q) (ltb→lt a' b' h)))

sub-scaled : (a b c a' b' c' : ℕ) → a * c' ≡ a' * c → b * c' ≡ b' * c → (a - b) * c' ≡ (a' - b') * c
sub-scaled a b c a' b' c' p q = sub-mul a b c' ∙ ap (λ (z : ℕ). z - b * c') p ∙ ap (λ (z : ℕ). a' * c - z) q ∙ sym (sub-mul a' b' c)

sum_same : (f : Format) (s : Bool) (a : ℕ) (t : Bool) (b c a' b' c' : ℕ) → 0 < c → 0 < c' → a * c' ≡ a' * c → b * c' ≡ b' * c
    → sum f s a t b c ≡ sum f s a' t b' c'
unfolding sum
sum_same f s a t b c a' b' c' C C' p q =
    let A : (u : Bool) → round f u (a + b) c ≡ round f u (a' + b') c' = λ u. round_same f u (a + b) c (a' + b') c' C C' (add-mul a b c' ∙ ap (λ (z : ℕ). z + b * c') p ∙ ap (λ (z : ℕ). a' * c + z) q ∙ sym (add-mul a' b' c)) in
    let B : (u : Bool) → round f u (b - a) c ≡ round f u (b' - a') c' = λ u. round_same f u (b - a) c (b' - a') c' C C' (sub-scaled b a c b' a' c' q p) in
    let D : (u : Bool) → round f u (a - b) c ≡ round f u (a' - b') c' = λ u. round_same f u (a - b) c (a' - b') c' C C' (sub-scaled a b c a' b' c' p q) in
    let x = ltb-same a b c a' b' c' C C' p q in
    let y = ltb-same b a c b' a' c' C C' q p in
    ap (λ (z : Float). cond (beq s t) z (cond (ltb a b) (round f t (b - a) c) (round f (s && ltb b a) (a - b) c))) (A s)
    ∙ ap (λ (z : Float). cond (beq s t) (round f s (a' + b') c') (cond (ltb a b) z (round f (s && ltb b a) (a - b) c))) (B t)
    ∙ ap (λ (z : Float). cond (beq s t) (round f s (a' + b') c') (cond (ltb a b) (round f t (b' - a') c') z)) (D (s && ltb b a))
    ∙ ap (λ (z : Bool). cond (beq s t) (round f s (a' + b') c') (cond z (round f t (b' - a') c') (round f (s && ltb b a) (a' - b') c'))) x
    ∙ ap (λ (z : Bool). cond (beq s t) (round f s (a' + b') c') (cond (ltb a' b') (round f t (b' - a') c') (round f (s && z) (a' - b') c'))) y

add-fin : (f : Format) (s : Bool) (m : ℕ) (e : ℤ) (t : Bool) (n : ℕ) (d : ℤ) → T (fits f (fin s m e)) → T (fits f (fin t n d))
    → add f (fin s m e) (fin t n d) ≡ sum f s (mag f (fin s m e)) t (mag f (fin t n d)) (2 ^ low f)
unfolding add
add-fin f s m e t n d h k =
    let L = 2 ^ low f in
    let x = mag f (fin s m e) in
    let y = mag f (fin t n d) in
    sum_same f s (m * up e * down d) t (n * up d * down e) (down e * down d) x y L (mul-pos (down_pos e) (down_pos d)) (pow_pos (low f))
    (mul_right_comm (m * up e) (down d) L ∙ ap (λ (z : ℕ). z * down d) (sym (mag-exact f s m e h)) ∙ mul_assoc x (down e) (down d))
    (mul_right_comm (n * up d) (down e) L ∙ ap (λ (z : ℕ). z * down e) (sym (mag-exact f t n d k)) ∙ mul_assoc y (down d) (down e) ∙ ap (λ (z : ℕ). y * z) (mul_comm (down d) (down e)))

pub add-sum : (f : Format) (x y : Float) → T (real f x) → T (real f y) → add f x y ≡ sum f (sign x) (mag f x) (sign y) (mag f y) (2 ^ low f)
add-sum f nan y p q = absurd p
add-sum f (inf s) y p q = absurd p
add-sum f (fin s m e) nan p q = absurd q
add-sum f (fin s m e) (inf t) p q = absurd q
add-sum f (fin s m e) (fin t n d) p q = add-fin f s m e t n d p q

-- two clear signs
pub sum-clear : (f : Format) (s t : Bool) (a b c : ℕ) → s ≡ false → t ≡ false → sum f s a t b c ≡ round f false (a + b) c
unfolding sum
sum-clear f false false a b c p q = refl
sum-clear f false true a b c p q = absurd (true≢false q)
sum-clear f true t a b c p q = absurd (true≢false p)

-- ---- the sign of an operand passes to the product and the quotient, of any two values
pub neg-neg : (x : Float) → neg (neg x) ≡ x
unfolding neg
neg-neg nan = refl
neg-neg (inf true) = refl
neg-neg (inf false) = refl
neg-neg (fin true m e) = refl
neg-neg (fin false m e) = refl

unlike-not : (s t : Bool) → unlike s (not t) ≡ not (unlike s t)
unlike-not true true = refl
unlike-not true false = refl
unlike-not false true = refl
unlike-not false false = refl

round-not : (f : Format) (s t : Bool) (a c : ℕ) → round f (unlike s (not t)) a c ≡ neg (round f (unlike s t) a c)
round-not f s t a c = ap (λ (b : Bool). round f b a c) (unlike-not s t) ∙ go (unlike s t)
  where
    go : (b : Bool) → round f (not b) a c ≡ neg (round f b a c)
    go false = round-neg f a c
    go true = sym (neg-neg (round f false a c)) ∙ ap neg (sym (round-neg f a c))

cond-neg : (b u v : Bool) → u ≡ not v → cond b nan (inf u) ≡ neg (cond b nan (inf v))
unfolding neg
cond-neg true u v e = refl
cond-neg false u v e = ap inf e

pub mul-neg : (f : Format) (x y : Float) → mul f x (neg y) ≡ neg (mul f x y)
unfolding mul neg
mul-neg f nan y = refl
mul-neg f (inf s) nan = refl
mul-neg f (inf s) (inf t) = ap inf (unlike-not s t)
mul-neg f (inf s) (fin t n d) = cond-neg (eqb n 0) (unlike s (not t)) (unlike s t) (unlike-not s t)
mul-neg f (fin s m e) nan = refl
mul-neg f (fin s m e) (inf t) = cond-neg (eqb m 0) (unlike s (not t)) (unlike s t) (unlike-not s t)
mul-neg f (fin s m e) (fin t n d) = round-not f s t (m * up e * (n * up d)) (down e * down d)

-- of the dividend
pub neg-div : (f : Format) (x y : Float) → T (real f x) → T (real f y) → 0 < mag f y → div f (neg x) y ≡ neg (div f x y)
neg-div f x y p q N = go x p
  where
    turn : (s : Bool) (m : ℕ) → round f (unlike (not s) (sign y)) m (mag f y) ≡ neg (round f (unlike s (sign y)) m (mag f y))
    turn s m =
        ap (λ (b : Bool). round f b m (mag f y)) (unlike-comm (not s) (sign y))
        ∙ round-not f (sign y) s m (mag f y)
        ∙ ap (λ (b : Bool). neg (round f b m (mag f y))) (unlike-comm (sign y) s)

    go : (x : Float) → T (real f x) → div f (neg x) y ≡ neg (div f x y)
    go nan p = absurd p
    go (inf s) p = absurd p
    go (fin s m e) p =
        unfold neg in
        div-round f (fin (not s) m e) y (neg-fits f (fin s m e) p) q N
        ∙ turn s (mag f (fin (not s) m e))
        ∙ ap (λ (n : ℕ). neg (round f (unlike s (sign y)) n (mag f y))) (mag-neg f (fin s m e))
        ∙ ap neg (sym (div-round f (fin s m e) y p q N))
