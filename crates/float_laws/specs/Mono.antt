-- The operations keep the order. A result's key is a rounding, which keeps the order of whole
-- numbers, of what the operands' keys say. Assumes nothing.
use Rattle.std.specs.Prelude.{◌≡◌, refl, ◌⊎◌, Bool, true, false, not, ◌&&◌, cond, ℕ, ◌+◌, ◌-◌, ◌*◌, ◌^◌, ◌≤◌, ◌<◌, T, ltb, Float}
use Rattle.std.proofs.Common.{sym, ap, ◌∙◌, subst₂, inl, inr, zero-mul, mul-zero, le_of_lt, le_refl, mul-le-mul_right, mul-le-mul_left, mul-le-mul, arith, pow_pos, ltb→lt, nltb→le}
use Rattle.std.specs.Bool.{beq}
use Rattle.std.proofs.Math.Decide.{dec_le}
use Rattle.std.specs.Float.{nan, inf, fin, Format}
use Rattle.std.specs.Float.Ieee.{low, round, neg, le, lt, eq, unlike, sum, add, sub, mul, div}
use Rattle.std.specs.Float.Ieee.Fits.{neg-fits}
use Rattle.std.specs.Float.Ieee.Scale.{overflow}
use Rattle.float_laws.specs.Units.{mag, sign, number, real, key, keyed, mag-below, mag-le, le→key, key→le, lt→key, key→lt, key→eq, real-number, overflow-pos, keyed-le}
use Rattle.float_laws.specs.Round.{plus_zero, key-zero, rnd, rnd-le, rnd-mono, rnd-zero, key-round, round_number, real-zero, squared-pos}
use Rattle.float_laws.specs.Ops.{mul-round, div-round, add-sum, mul-neg, unlike-clear, neg-div}

-- ---- a function of sizes that keeps their order and takes 0 to 0, on signed sizes
keyed-map : (K : ℕ) (g : ℕ → ℕ) → ((m n : ℕ) → m ≤ n → g m ≤ g n) → g 0 ≡ 0 → (s : Bool) (m : ℕ) (t : Bool) (n : ℕ) → m ≤ K → n ≤ K → keyed K s m ≤ keyed K t n
    → keyed K s (g m) ≤ keyed K t (g n)
keyed-map K g G z false m false n M N h = omega (arith, G m n (omega arith))
keyed-map K g G z false m true n M N h =
    let a : m ≡ 0 = omega arith in
    let b : n ≡ 0 = omega arith in
    omega (arith, ap g a ∙ z, ap g b ∙ z)
keyed-map K g G z true m false n M N h = omega arith
keyed-map K g G z true m true n M N h = omega (arith, G n m (omega arith))

-- ---- a signed number t - 2 K by its shifted form t, through such a function, to a key
abbrev pub center : ℕ → (ℕ → ℕ) → ℕ → ℕ
center K g t = cond (ltb t (K + K)) (K - g (K + K - t)) (K + g (t - (K + K)))

pub center-up : (K : ℕ) (g : ℕ → ℕ) (t n : ℕ) → t ≡ K + K + n → center K g t ≡ K + g n
center-up K g t n e = go (ltb t (K + K)) (ltb→lt t (K + K))
  where
    go : (b : Bool) → (T b → t < K + K) → cond b (K - g (K + K - t)) (K + g (t - (K + K))) ≡ K + g n
    go true h = absurd (omega (arith, h tt))
    go false h = let w : t - (K + K) ≡ n = omega arith in ap (λ (z : ℕ). K + g z) w

pub center-down : (K : ℕ) (g : ℕ → ℕ) (t n : ℕ) → g 0 ≡ 0 → t + n ≡ K + K → center K g t ≡ K - g n
center-down K g t n z e = go (ltb t (K + K)) (nltb→le t (K + K))
  where
    go : (b : Bool) → (T (not b) → K + K ≤ t) → cond b (K - g (K + K - t)) (K + g (t - (K + K))) ≡ K - g n
    go true h = let w : K + K - t ≡ n = omega arith in ap (λ (z : ℕ). K - g z) w
    go false h =
        let l : K + K ≤ t = h tt in
        let w : t - (K + K) ≡ 0 = omega arith in
        let v : n ≡ 0 = omega arith in
        omega (arith, ap g w ∙ z, ap g v ∙ z)

pub center-mono : (K : ℕ) (g : ℕ → ℕ) → ((m n : ℕ) → m ≤ n → g m ≤ g n) → (t u : ℕ) → t ≤ u → center K g t ≤ center K g u
center-mono K g G t u h = go (ltb t (K + K)) (ltb u (K + K)) (nltb→le t (K + K)) (ltb→lt u (K + K))
  where
    go : (b c : Bool) → (T (not b) → K + K ≤ t) → (T c → u < K + K)
        → cond b (K - g (K + K - t)) (K + g (t - (K + K))) ≤ cond c (K - g (K + K - u)) (K + g (u - (K + K)))
    go true true x y = omega (arith, G (K + K - u) (K + K - t) (omega arith))
    go true false x y = omega arith
    go false true x y = absurd (omega (arith, x tt, y tt))
    go false false x y = omega (arith, G (t - (K + K)) (u - (K + K)) (omega arith))

-- ---- the sum
-- whole units, rounded
abbrev pub rnd_u : Format → ℕ → ℕ
rnd_u f n = rnd f n (2 ^ low f)

pub rnd_u-mono : (f : Format) (m n : ℕ) → m ≤ n → rnd_u f m ≤ rnd_u f n
rnd_u-mono f m n h = rnd-mono f m (2 ^ low f) n (2 ^ low f) (pow_pos (low f)) (pow_pos (low f)) (mul-le-mul_right (2 ^ low f) h)

pub rnd_u-zero : (f : Format) → rnd_u f 0 ≡ 0
rnd_u-zero f = rnd-zero f (2 ^ low f) (pow_pos (low f))

key-sum : (f : Format) (s : Bool) (a : ℕ) (t : Bool) (b : ℕ) → a ≤ overflow f → b ≤ overflow f
    → key f (sum f s a t b (2 ^ low f)) ≡ center (overflow f) (rnd_u f) (keyed (overflow f) s a + keyed (overflow f) t b)
unfolding sum
key-sum f false a false b A B =
    key-round f false (a + b) (2 ^ low f) ∙ sym (center-up (overflow f) (rnd_u f) (overflow f + a + (overflow f + b)) (a + b) (omega arith))
key-sum f true a true b A B =
    key-round f true (a + b) (2 ^ low f) ∙ sym (center-down (overflow f) (rnd_u f) (overflow f - a + (overflow f - b)) (a + b) (rnd_u-zero f) (omega arith))
key-sum f false a true b A B = go (ltb a b) (ltb→lt a b) (nltb→le a b)
  where
    go : (x : Bool) → (T x → a < b) → (T (not x) → b ≤ a)
        → key f (cond x (round f true (b - a) (2 ^ low f)) (round f false (a - b) (2 ^ low f))) ≡ center (overflow f) (rnd_u f) (overflow f + a + (overflow f - b))
    go true h k =
        key-round f true (b - a) (2 ^ low f)
        ∙ sym (center-down (overflow f) (rnd_u f) (overflow f + a + (overflow f - b)) (b - a) (rnd_u-zero f) (omega (arith, h tt)))
    go false h k =
        key-round f false (a - b) (2 ^ low f) ∙ sym (center-up (overflow f) (rnd_u f) (overflow f + a + (overflow f - b)) (a - b) (omega (arith, k tt)))
key-sum f true a false b A B = go (ltb a b) (ltb b a) (ltb→lt a b) (nltb→le a b) (nltb→le b a)
  where
    go : (x y : Bool) → (T x → a < b) → (T (not x) → b ≤ a) → (T (not y) → a ≤ b)
        → key f (cond x (round f false (b - a) (2 ^ low f)) (round f y (a - b) (2 ^ low f))) ≡ center (overflow f) (rnd_u f) (overflow f - a + (overflow f + b))
    go true y h k l =
        key-round f false (b - a) (2 ^ low f) ∙ sym (center-up (overflow f) (rnd_u f) (overflow f - a + (overflow f + b)) (b - a) (omega (arith, h tt)))
    go false true h k l =
        key-round f true (a - b) (2 ^ low f)
        ∙ sym (center-down (overflow f) (rnd_u f) (overflow f - a + (overflow f + b)) (a - b) (rnd_u-zero f) (omega (arith, k tt)))
    go false false h k l =
        key-round f false (a - b) (2 ^ low f) ∙ sym (center-up (overflow f) (rnd_u f) (overflow f - a + (overflow f + b)) (a - b) (omega (arith, k tt, l tt)))

pub real-le : (f : Format) (x : Float) → T (real f x) → mag f x ≤ overflow f
real-le f x p = le_of_lt (mag-below f x p)

sum_number : (f : Format) (s : Bool) (a : ℕ) (t : Bool) (b c : ℕ) → T (number f (sum f s a t b c))
unfolding sum
sum_number f s a t b c = go (beq s t) (ltb a b)
  where
    go : (x y : Bool) → T (number f (cond x (round f s (a + b) c) (cond y (round f t (b - a) c) (round f (s && ltb b a) (a - b) c))))
    go true y = round_number f s (a + b) c
    go false true = round_number f t (b - a) c
    go false false = round_number f (s && ltb b a) (a - b) c

pub add-number : (f : Format) (x y : Float) → T (real f x) → T (real f y) → T (number f (add f x y))
add-number f x y p q = rw add-sum (sum_number f (sign x) (mag f x) (sign y) (mag f y) (2 ^ low f))

pub add-key : (f : Format) (x y : Float) → T (real f x) → T (real f y) → key f (add f x y) ≡ center (overflow f) (rnd_u f) (key f x + key f y)
add-key f x y p q = ap (key f) (add-sum f x y p q) ∙ key-sum f (sign x) (mag f x) (sign y) (mag f y) (real-le f x p) (real-le f y q)

module _ (f : Format) (x x' y y' : Float) (p : T (real f x)) (p' : T (real f x')) (q : T (real f y)) (q' : T (real f y')) where
  pub add-mono : T (le x x') → T (le y y') → T (le (add f x y) (add f x' y'))
  add-mono h k =
      let a = le→key f x x' (real-number f x p) (real-number f x' p') h in
      let b = le→key f y y' (real-number f y q) (real-number f y' q') k in
      key→le f (add f x y) (add f x' y') (add-number f x y p q) (add-number f x' y' p' q')
      (rw (add-key f x y p q, add-key f x' y' p' q') (center-mono (overflow f) (rnd_u f) (rnd_u-mono f) (key f x + key f y) (key f x' + key f y') (omega arith)))

-- ---- the difference
pub real-neg : (f : Format) (x : Float) → T (real f x) → T (real f (neg x))
unfolding neg
real-neg f nan p = absurd p
real-neg f (inf s) p = absurd p
real-neg f (fin s m e) p = neg-fits f (fin s m e) p

keyed-neg : (K : ℕ) (s : Bool) (m : ℕ) → m ≤ K → keyed K (not s) m ≡ K + K - keyed K s m
keyed-neg K false m h = omega arith
keyed-neg K true m h = omega arith

pub key-neg : (f : Format) (x : Float) → T (number f x) → key f (neg x) ≡ overflow f + overflow f - key f x
unfolding neg mag
key-neg f nan p = absurd p
key-neg f (inf s) p = keyed-neg (overflow f) s (overflow f) (le_refl (overflow f))
key-neg f (fin s m e) p = keyed-neg (overflow f) s (mag f (fin s m e)) (mag-le f (fin s m e) p)

pub key-high : (f : Format) (x : Float) → T (number f x) → key f x ≤ overflow f + overflow f
key-high f x p = omega (arith, keyed-le (overflow f) (sign x) (mag f x), mag-le f x p)

pub number-neg : (f : Format) (x : Float) → T (number f x) → T (number f (neg x))
unfolding neg
number-neg f nan p = absurd p
number-neg f (inf s) p = tt
number-neg f (fin s m e) p = neg-fits f (fin s m e) p

-- negation reverses the order
module _ (f : Format) (x y : Float) (p : T (number f x)) (q : T (number f y)) where
  pub le-neg : T (le x y) → T (le (neg y) (neg x))
  le-neg h = key→le f (neg y) (neg x) (number-neg f y q) (number-neg f x p) (omega (arith, key-neg f x p, key-neg f y q, le→key f x y p q h))

  pub le-neg-back : T (le (neg y) (neg x)) → T (le x y)
  le-neg-back h =
      key→le f x y p q
      (omega (arith, key-neg f x p, key-neg f y q, le→key f (neg y) (neg x) (number-neg f y q) (number-neg f x p) h, key-high f x p, key-high f y q))

sub_is : (f : Format) (x y : Float) → sub f x y ≡ add f x (neg y)
unfolding sub
sub_is f x y = refl

pub sub_number : (f : Format) (x y : Float) → T (real f x) → T (real f y) → T (number f (sub f x y))
sub_number f x y p q = rw sub_is (add-number f x (neg y) p (real-neg f y q))

pub sub-key : (f : Format) (x y : Float) → T (real f x) → T (real f y)
    → key f (sub f x y) ≡ center (overflow f) (rnd_u f) (key f x + (overflow f + overflow f - key f y))
sub-key f x y p q =
    ap (key f) (sub_is f x y)
    ∙ add-key f x (neg y) p (real-neg f y q)
    ∙ ap (λ (z : ℕ). center (overflow f) (rnd_u f) (key f x + z)) (key-neg f y (real-number f y q))

module _ (f : Format) (x x' y y' : Float) (p : T (real f x)) (p' : T (real f x')) (q : T (real f y)) (q' : T (real f y')) where
  pub sub-mono : T (le x x') → T (le y' y) → T (le (sub f x y) (sub f x' y'))
  sub-mono h k =
      let a = le→key f x x' (real-number f x p) (real-number f x' p') h in
      let b = le→key f y' y (real-number f y' q') (real-number f y q) k in
      key→le f (sub f x y) (sub f x' y') (sub_number f x y p q) (sub_number f x' y' p' q')
      (rw (sub-key f x y p q, sub-key f x' y' p' q')
      (center-mono (overflow f) (rnd_u f) (rnd_u-mono f) (key f x + (overflow f + overflow f - key f y)) (key f x' + (overflow f + overflow f - key f y')) (omega arith)))

center-turned : (K : ℕ) (g : ℕ → ℕ) → g 0 ≡ 0 → ((n : ℕ) → g n ≤ K) → (t u : ℕ) → t + u ≡ K + K + (K + K) → center K g t ≡ K + K - center K g u
center-turned K g z l t u e =
    elim (dec_le (K + K) t) [
      | yes h ↦
          let w : t ≡ K + K + (t - (K + K)) = omega arith in
          let v : u + (t - (K + K)) ≡ K + K = omega arith in
          omega (arith, center-up K g t (t - (K + K)) w, center-down K g u (t - (K + K)) z v, l (t - (K + K)))
      | no h ↦
          let w : t + (K + K - t) ≡ K + K = omega arith in
          let v : u ≡ K + K + (K + K - t) = omega arith in
          omega (arith, center-down K g t (K + K - t) z w, center-up K g u (K + K - t) v, l (K + K - t))
    ]

-- the difference the other way round is its negative
pub sub-swap : (f : Format) (x y : Float) → T (real f x) → T (real f y) → T (eq (sub f x y) (neg (sub f y x)))
sub-swap f x y p q =
    let K = overflow f in
    let a = key-high f x (real-number f x p) in
    let b = key-high f y (real-number f y q) in
    let n = sub_number f y x q p in
    key→eq f (sub f x y) (neg (sub f y x)) (sub_number f x y p q) (number-neg f (sub f y x) n)
    (sub-key f x y p q
    ∙ center-turned K (rnd_u f) (rnd_u-zero f) (λ n. rnd-le f n (2 ^ low f)) (key f x + (K + K - key f y)) (key f y + (K + K - key f x)) (omega arith)
    ∙ ap (λ (z : ℕ). K + K - z) (sym (sub-key f y x q p))
    ∙ sym (key-neg f (sub f y x) n))

-- ---- the product with what is not negative
nonneg-cases : (K : ℕ) (s : Bool) (m : ℕ) → K ≤ keyed K s m → 0 < K → m ≤ K → (s ≡ false) ⊎ (m ≡ 0)
nonneg-cases K false m h P l = inl refl
nonneg-cases K true m h P l = inr (omega arith)

pub nonneg-key : (f : Format) (x : Float) → T (number f x) → T (le plus_zero x) → overflow f ≤ key f x
nonneg-key f x p h = omega (arith, key-zero f, le→key f plus_zero x (real-number f plus_zero (real-zero f false)) p h)

pub key-nonneg : (f : Format) (x : Float) → T (number f x) → overflow f ≤ key f x → T (le plus_zero x)
key-nonneg f x p h = key→le f plus_zero x (real-number f plus_zero (real-zero f false)) p (omega (arith, key-zero f))

abbrev pub rnd_m : Format → ℕ → ℕ → ℕ
rnd_m f m n = rnd f (m * n) (2 ^ low f * 2 ^ low f)

pub rnd_m-mono : (f : Format) (m m' n n' : ℕ) → m ≤ m' → n ≤ n' → rnd_m f m n ≤ rnd_m f m' n'
rnd_m-mono f m m' n n' h k =
    rnd-mono f (m * n) (2 ^ low f * 2 ^ low f) (m' * n') (2 ^ low f * 2 ^ low f) (squared-pos f) (squared-pos f)
    (mul-le-mul_right (2 ^ low f * 2 ^ low f) (mul-le-mul h k))

rnd_m-zero : (f : Format) (n : ℕ) → rnd_m f 0 n ≡ 0
rnd_m-zero f n = ap (λ (z : ℕ). rnd f z (2 ^ low f * 2 ^ low f)) (zero-mul n) ∙ rnd-zero f (2 ^ low f * 2 ^ low f) (squared-pos f)

rnd_m-zero-r : (f : Format) (m : ℕ) → rnd_m f m 0 ≡ 0
rnd_m-zero-r f m = ap (λ (z : ℕ). rnd f z (2 ^ low f * 2 ^ low f)) (mul-zero m) ∙ rnd-zero f (2 ^ low f * 2 ^ low f) (squared-pos f)

pub mul-number : (f : Format) (x y : Float) → T (real f x) → T (real f y) → T (number f (mul f x y))
mul-number f x y p q = rw mul-round (round_number f (unlike (sign x) (sign y)) (mag f x * mag f y) (2 ^ low f * 2 ^ low f))

keyed-at-zero : (K : ℕ) (s t : Bool) (n : ℕ) → n ≡ 0 → keyed K s n ≡ keyed K t n
keyed-at-zero K false false n h = refl
keyed-at-zero K false true n h = omega arith
keyed-at-zero K true false n h = omega arith
keyed-at-zero K true true n h = refl

pub mul-key : (f : Format) (x z : Float) → T (real f x) → T (real f z) → overflow f ≤ key f z
    → key f (mul f x z) ≡ keyed (overflow f) (sign x) (rnd_m f (mag f x) (mag f z))
mul-key f x z p q h =
    let K = overflow f in
    ap (key f) (mul-round f x z p q)
    ∙ key-round f (unlike (sign x) (sign z)) (mag f x * mag f z) (2 ^ low f * 2 ^ low f)
    ∙ elim (nonneg-cases K (sign z) (mag f z) h (overflow-pos f) (real-le f z q)) [
      | inl e ↦ ap (λ (b : Bool). keyed K b (rnd_m f (mag f x) (mag f z))) (unlike-clear (sign x) (sign z) e)
      | inr e ↦ keyed-at-zero K (unlike (sign x) (sign z)) (sign x) (rnd_m f (mag f x) (mag f z)) (ap (rnd_m f (mag f x)) e ∙ rnd_m-zero-r f (mag f x))
    ]

module _ (f : Format) (x y z : Float) (p : T (real f x)) (q : T (real f y)) (r : T (real f z)) where
  pub mul-mono-l : T (le plus_zero z) → T (le x y) → T (le (mul f x z) (mul f y z))
  mul-mono-l Z h =
      let k = nonneg-key f z (real-number f z r) Z in
      key→le f (mul f x z) (mul f y z) (mul-number f x z p r) (mul-number f y z q r)
      (rw (mul-key f x z p r k, mul-key f y z q r k)
      (keyed-map (overflow f) (λ m. rnd_m f m (mag f z)) (λ m n l. rnd_m-mono f m n (mag f z) (mag f z) l (le_refl (mag f z))) (rnd_m-zero f (mag f z)) (sign x) (mag f x) (sign y) (mag f y) (real-le f x p) (real-le f y q)
      (le→key f x y (real-number f x p) (real-number f y q) h)))

neg-nonneg : (f : Format) (z : Float) → T (number f z) → T (le z plus_zero) → T (le plus_zero (neg z))
neg-nonneg f z p h =
    key-nonneg f (neg z) (number-neg f z p) (omega (arith, key-neg f z p, key-zero f, le→key f z plus_zero p (real-number f plus_zero (real-zero f false)) h))

-- with what is not positive the order is reversed
pub mul-turns-l : (f : Format) (x y z : Float) → T (real f x) → T (real f y) → T (real f z) → T (le z plus_zero) → T (le x y) → T (le (mul f y z) (mul f x z))
mul-turns-l f x y z p q r Z h =
    le-neg-back f (mul f y z) (mul f x z) (mul-number f y z q r) (mul-number f x z p r)
    (subst₂ (λ (a b : Float). T (le a b)) (mul-neg f x z) (mul-neg f y z) (mul-mono-l f x y (neg z) p q (real-neg f z r) (neg-nonneg f z (real-number f z r) Z) h))

sizes-of-keys : (K : ℕ) (s : Bool) (m : ℕ) (t : Bool) (n : ℕ) → m ≤ K → n ≤ K → K ≤ keyed K s m → keyed K s m ≤ keyed K t n
    → (m ≤ n) × (keyed K s m ≡ K + m) × (keyed K t n ≡ K + n)
sizes-of-keys K false m false n M N h k = omega arith
sizes-of-keys K false m true n M N h k = omega arith
sizes-of-keys K true m false n M N h k = omega arith
sizes-of-keys K true m true n M N h k = omega arith

-- of x that is not negative, and y that is at least x
module _ (f : Format) (x y : Float) (p : T (real f x)) (q : T (real f y)) where
  pub sizes : T (le plus_zero x) → T (le x y) → (mag f x ≤ mag f y) × (key f x ≡ overflow f + mag f x) × (key f y ≡ overflow f + mag f y)
  sizes X h =
      sizes-of-keys (overflow f) (sign x) (mag f x) (sign y) (mag f y) (real-le f x p) (real-le f y q) (nonneg-key f x (real-number f x p) X)
      (le→key f x y (real-number f x p) (real-number f y q) h)

pub size-nonneg : (f : Format) (x : Float) → T (real f x) → T (le plus_zero x) → key f x ≡ overflow f + mag f x
size-nonneg f x p X = (sizes f x x p p X (key→le f x x (real-number f x p) (real-number f x p) (le_refl (key f x)))).1

keyed-zero-or : (K : ℕ) (s : Bool) (m r : ℕ) → keyed K s m ≡ K + m → m ≤ K → (m ≡ 0 → r ≡ 0) → keyed K s r ≡ K + r
keyed-zero-or K false m r h l z = refl
keyed-zero-or K true m r h l z = let e : m ≡ 0 = omega arith in omega (arith, z e)

-- the key of a product of two that are not negative
pub mul-key-nonneg : (f : Format) (x y : Float) → T (real f x) → T (real f y) → T (le plus_zero x) → T (le plus_zero y)
    → key f (mul f x y) ≡ overflow f + rnd_m f (mag f x) (mag f y)
mul-key-nonneg f x y p q X Y =
    mul-key f x y p q (nonneg-key f y (real-number f y q) Y)
    ∙ keyed-zero-or (overflow f) (sign x) (mag f x) (rnd_m f (mag f x) (mag f y)) (size-nonneg f x p X) (real-le f x p)
    (λ e. ap (λ (z : ℕ). rnd_m f z (mag f y)) e ∙ rnd_m-zero f (mag f y))

pub mul-nonneg : (f : Format) (x y : Float) → T (real f x) → T (real f y) → T (le plus_zero x) → T (le plus_zero y) → T (le plus_zero (mul f x y))
mul-nonneg f x y p q X Y = key-nonneg f (mul f x y) (mul-number f x y p q) (omega (arith, mul-key-nonneg f x y p q X Y))

module _ (f : Format) (x x' y y' : Float) (p : T (real f x)) (p' : T (real f x')) (q : T (real f y)) (q' : T (real f y')) where
  pub mul_mono : T (le plus_zero x) → T (le plus_zero y) → T (le x x') → T (le y y') → T (le (mul f x y) (mul f x' y'))
  mul_mono X Y h k =
      let a = sizes f x x' p p' X h in
      let b = sizes f y y' q q' Y k in
      let X' : T (le plus_zero x') = key-nonneg f x' (real-number f x' p') (omega (arith, a.2)) in
      let Y' : T (le plus_zero y') = key-nonneg f y' (real-number f y' q') (omega (arith, b.2)) in
      key→le f (mul f x y) (mul f x' y') (mul-number f x y p q) (mul-number f x' y' p' q')
      (omega (arith, mul-key-nonneg f x y p q X Y, mul-key-nonneg f x' y' p' q' X' Y', rnd_m-mono f (mag f x) (mag f x') (mag f y) (mag f y') a.0 b.0))

-- ---- the quotient by what is above zero
above_cases : (K : ℕ) (s : Bool) (m : ℕ) → K < keyed K s m → (s ≡ false) × (0 < m)
above_cases K false m h = (refl, omega arith)
above_cases K true m h = absurd (omega arith)

pub above_zero : (f : Format) (x : Float) → T (number f x) → T (lt plus_zero x) → (sign x ≡ false) × (0 < mag f x)
above_zero f x p h =
    above_cases (overflow f) (sign x) (mag f x) (omega (arith, key-zero f, lt→key f plus_zero x (real-number f plus_zero (real-zero f false)) p h))

pub div-number : (f : Format) (x y : Float) → T (real f x) → T (real f y) → 0 < mag f y → T (number f (div f x y))
div-number f x y p q N = rw div-round (round_number f (unlike (sign x) (sign y)) (mag f x) (mag f y))

pub div-key : (f : Format) (x y : Float) → T (real f x) → T (real f y) → T (lt plus_zero y)
    → key f (div f x y) ≡ keyed (overflow f) (sign x) (rnd f (mag f x) (mag f y))
div-key f x y p q Y =
    let a = above_zero f y (real-number f y q) Y in
    ap (key f) (div-round f x y p q a.1)
    ∙ key-round f (unlike (sign x) (sign y)) (mag f x) (mag f y)
    ∙ ap (λ (b : Bool). keyed (overflow f) b (rnd f (mag f x) (mag f y))) (unlike-clear (sign x) (sign y) a.0)

module _ (f : Format) (x x' y : Float) (p : T (real f x)) (p' : T (real f x')) (q : T (real f y)) where
  pub div_mono : T (lt plus_zero y) → T (le x x') → T (le (div f x y) (div f x' y))
  div_mono Y h =
      let N = (above_zero f y (real-number f y q) Y).1 in
      key→le f (div f x y) (div f x' y) (div-number f x y p q N) (div-number f x' y p' q N)
      (rw (div-key f x y p q Y, div-key f x' y p' q Y)
      (keyed-map (overflow f) (λ m. rnd f m (mag f y)) (λ m n l. rnd-mono f m (mag f y) n (mag f y) N N (mul-le-mul_right (mag f y) l)) (rnd-zero f (mag f y) N) (sign x) (mag f x) (sign x') (mag f x') (real-le f x p) (real-le f x' p')
      (le→key f x x' (real-number f x p) (real-number f x' p') h)))

module _ (f : Format) (x y y' : Float) (p : T (real f x)) (q : T (real f y)) (q' : T (real f y')) where
  pub div-anti : T (le plus_zero x) → T (lt plus_zero y) → T (le y y') → T (le (div f x y') (div f x y))
  div-anti X Y h =
      let K = overflow f in
      let N = (above_zero f y (real-number f y q) Y).1 in
      let O : T (le plus_zero y) = key-nonneg f y (real-number f y q) (omega (arith, key-zero f, lt→key f plus_zero y (real-number f plus_zero (real-zero f false)) (real-number f y q) Y)) in
      let a = sizes f y y' q q' O h in
      let N' : 0 < mag f y' = omega (arith, a.0) in
      let Y' : T (lt plus_zero y') = key→lt f plus_zero y' (real-number f plus_zero (real-zero f false)) (real-number f y' q') (omega (arith, key-zero f, a.2)) in
      let u = div-key f x y p q Y ∙ keyed-zero-or K (sign x) (mag f x) (rnd f (mag f x) (mag f y)) (size-nonneg f x p X) (real-le f x p) (λ e. ap (λ (z : ℕ). rnd f z (mag f y)) e ∙ rnd-zero f (mag f y) N) in
      let v = div-key f x y' p q' Y' ∙ keyed-zero-or K (sign x) (mag f x) (rnd f (mag f x) (mag f y')) (size-nonneg f x p X) (real-le f x p) (λ e. ap (λ (z : ℕ). rnd f z (mag f y')) e ∙ rnd-zero f (mag f y') N') in
      key→le f (div f x y') (div f x y) (div-number f x y' p q' N') (div-number f x y p q N)
      (omega (arith, u, v, rnd-mono f (mag f x) (mag f y') (mag f x) (mag f y) N' N (mul-le-mul_left (mag f x) a.0)))

-- and of what is not positive it rises with the divisor
pub div-rises : (f : Format) (x y y' : Float) → T (real f x) → T (real f y) → T (real f y') → T (le x plus_zero) → T (lt plus_zero y) → T (le y y')
    → T (le (div f x y) (div f x y'))
div-rises f x y y' p q q' X Y h =
    let o = real-number f plus_zero (real-zero f false) in
    let n = real-number f y q in
    let n' = real-number f y' q' in
    let N = (above_zero f y n Y).1 in
    let Y' : T (lt plus_zero y') = key→lt f plus_zero y' o n' (omega (arith, lt→key f plus_zero y o n Y, le→key f y y' n n' h)) in
    let N' = (above_zero f y' n' Y').1 in
    le-neg-back f (div f x y) (div f x y') (div-number f x y p q N) (div-number f x y' p q' N')
    (subst₂ (λ (a b : Float). T (le a b)) (neg-div f x y' p q' N') (neg-div f x y p q N) (div-anti f (neg x) y y' (real-neg f x p) q q' (neg-nonneg f x (real-number f x p) X) Y h))
