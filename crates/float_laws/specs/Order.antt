-- The order of numbers, a NaN left out: a total order up to `eq`, which puts the two zeros in one
-- place. `larger` and `smaller` are of two numbers; `maximum` and `clamp` are document 01's, and
-- agree with them on numbers. Each law is one on keys, and `omega` proves it. Assumes nothing.
use Rattle.std.specs.Prelude.{◌≡◌, refl, ◌⊎◌, Bool, true, false, not, cond, ℕ, ◌≤◌, ◌<◌, max, min, T, Float}
use Rattle.std.proofs.Common.{sym, ap, ◌∙◌, inl, inr, true≢false, le_refl, le_trans, le_of_lt, le_of_eq, lt_of_le_of_lt, lt_of_lt_of_le, le_antisymm, lt_of_not-le, not-le_of_lt, arith, T_not}
use Rattle.std.proofs.Math.Dec.{not_T}
use Rattle.std.specs.Float.{nan, inf, fin, Format}
use Rattle.std.specs.Float.Ieee.{fits, is_nan, lt, eq, le}
use Rattle.std.specs.Float.Ieee.Bits.{is_false}
use Rattle.std.specs.Float.Ieee.Scale.{overflow}
use Rattle.float_laws.specs.Units.{mag, sign, number, key, keyed, mag-le, unique, lt→key, key→lt, eq→key, key→eq, le→key, key→le}

-- ---- where a number is met: a value of the format that a comparison holds of
pub fits-number : (f : Format) (x : Float) → T (fits f x) → T (not (is_nan x)) → T (number f x)
unfolding is_nan
fits-number f nan h n = n
fits-number f (inf s) h n = tt
fits-number f (fin s m e) h n = h

pub number_fits : (f : Format) (x : Float) → T (number f x) → T (fits f x)
unfolding fits
number_fits f nan h = tt
number_fits f (inf s) h = tt
number_fits f (fin s m e) h = h

pub le_left : (f : Format) (x y : Float) → T (fits f x) → T (le x y) → T (number f x)
unfolding le
le_left f nan y h l = l
le_left f (inf s) y h l = tt
le_left f (fin s m e) y h l = h

pub le_right : (f : Format) (x y : Float) → T (fits f y) → T (le x y) → T (number f y)
unfolding le
le_right f nan nan h l = l
le_right f (inf s) nan h l = l
le_right f (fin s m e) nan h l = l
le_right f x (inf s) h l = tt
le_right f x (fin s m e) h l = h

-- ---- the laws
le_of_not_lt : {a b : ℕ} → ¬ (a < b) → b ≤ a
le_of_not_lt h = omega arith

module _ (f : Format) where
  pub le-refl-f : (x : Float) → T (number f x) → T (le x x)
  le-refl-f x p = key→le f x x p p (le_refl (key f x))

  pub eq-refl-f : (x : Float) → T (number f x) → T (eq x x)
  eq-refl-f x p = key→eq f x x p p refl

  module _ (x y : Float) (p : T (number f x)) (q : T (number f y)) where
    pub le-antisymm-f : T (le x y) → T (le y x) → T (eq x y)
    le-antisymm-f h k = key→eq f x y p q (le_antisymm (le→key f x y p q h) (le→key f y x q p k))

    pub eq-sym-f : T (eq x y) → T (eq y x)
    eq-sym-f h = key→eq f y x q p (sym (eq→key f x y p q h))

    pub eq→le-f : T (eq x y) → T (le x y)
    eq→le-f h = key→le f x y p q (le_of_eq (eq→key f x y p q h))

    pub lt→le-f : T (lt x y) → T (le x y)
    lt→le-f h = key→le f x y p q (le_of_lt (lt→key f x y p q h))

    -- the negations: of two numbers, one is below the other or is not
    pub not-lt-f : T (not (lt x y)) → T (le y x)
    not-lt-f h = key→le f y x q p (le_of_not_lt (λ (l : key f x < key f y). T_not (lt x y) h (key→lt f x y p q l)))

    pub not-le-f : T (not (le x y)) → T (lt y x)
    not-le-f h = key→lt f y x q p (lt_of_not-le (λ (l : key f x ≤ key f y). T_not (le x y) h (key→le f x y p q l)))

    pub le-total-f : T (le x y) ⊎ T (le y x)
    le-total-f = go (le x y) (λ (n : T (not (le x y))). key→le f y x q p (le_of_lt (lt→key f y x q p (not-le-f n))))
      where
        go : (b : Bool) → (T (not b) → T (le y x)) → T b ⊎ T (le y x)
        go true h = inl tt
        go false h = inr (h tt)

    pub le→not-lt-f : T (le x y) → T (not (lt y x))
    le→not-lt-f h = not_T (lt y x) (λ (l : T (lt y x)). not-le_of_lt (lt→key f y x q p l) (le→key f x y p q h))

  module _ (x y z : Float) (p : T (number f x)) (q : T (number f y)) (r : T (number f z)) where
    pub le-trans-f : T (le x y) → T (le y z) → T (le x z)
    le-trans-f h k = key→le f x z p r (le_trans (le→key f x y p q h) (le→key f y z q r k))

    pub lt-of-le-of-lt-f : T (le x y) → T (lt y z) → T (lt x z)
    lt-of-le-of-lt-f h k = key→lt f x z p r (lt_of_le_of_lt (le→key f x y p q h) (lt→key f y z q r k))

    pub lt-of-lt-of-le-f : T (lt x y) → T (le y z) → T (lt x z)
    lt-of-lt-of-le-f h k = key→lt f x z p r (lt_of_lt_of_le (lt→key f x y p q h) (le→key f y z q r k))

-- ---- equal numbers of one sign are one datum
one_size : (K : ℕ) (s t : Bool) (m n : ℕ) → m ≤ K → n ≤ K → s ≡ t → keyed K s m ≡ keyed K t n → m ≡ n
one_size K false false m n M N e h = omega arith
one_size K true true m n M N e h = omega arith
one_size K false true m n M N e h = absurd (true≢false (sym e))
one_size K true false m n M N e h = absurd (true≢false e)

pub eq→same : (f : Format) (x y : Float) → T (number f x) → T (number f y) → sign x ≡ sign y → T (eq x y) → x ≡ y
eq→same f x y p q s h = unique f x y p q s (one_size (overflow f) (sign x) (sign y) (mag f x) (mag f y) (mag-le f x p) (mag-le f y q) s (eq→key f x y p q h))

-- ---- the larger and the smaller of two numbers
abbrev pub larger : Float → Float → Float
larger x y = cond (lt x y) y x

abbrev pub smaller : Float → Float → Float
smaller x y = cond (lt y x) y x

module _ (f : Format) (x y : Float) (p : T (number f x)) (q : T (number f y)) where
  pub larger-number : T (number f (larger x y))
  larger-number = go (lt x y)
    where
      go : (b : Bool) → T (number f (cond b y x))
      go true = q
      go false = p

  pub smaller-number : T (number f (smaller x y))
  smaller-number = go (lt y x)
    where
      go : (b : Bool) → T (number f (cond b y x))
      go true = q
      go false = p

  pub key-larger : key f (larger x y) ≡ max (key f x) (key f y)
  key-larger = go (lt x y) (lt→key f x y p q) (λ (n : T (not (lt x y))). le→key f y x q p (not-lt-f f x y p q n))
    where
      go : (b : Bool) → (T b → key f x < key f y) → (T (not b) → key f y ≤ key f x) → key f (cond b y x) ≡ max (key f x) (key f y)
      go true h k = omega (arith, h tt)
      go false h k = omega (arith, k tt)

  pub key-smaller : key f (smaller x y) ≡ min (key f x) (key f y)
  key-smaller = go (lt y x) (lt→key f y x q p) (λ (n : T (not (lt y x))). le→key f x y p q (not-lt-f f y x q p n))
    where
      go : (b : Bool) → (T b → key f y < key f x) → (T (not b) → key f x ≤ key f y) → key f (cond b y x) ≡ min (key f x) (key f y)
      go true h k = omega (arith, h tt)
      go false h k = omega (arith, k tt)

  pub larger-left : T (le x (larger x y))
  larger-left = key→le f x (larger x y) p larger-number (omega (arith, key-larger))

  pub larger-right : T (le y (larger x y))
  larger-right = key→le f y (larger x y) q larger-number (omega (arith, key-larger))

  pub larger-least : (z : Float) → T (number f z) → T (le x z) → T (le y z) → T (le (larger x y) z)
  larger-least z r h k = key→le f (larger x y) z larger-number r (omega (arith, key-larger, le→key f x z p r h, le→key f y z q r k))

  pub smaller-left : T (le (smaller x y) x)
  smaller-left = key→le f (smaller x y) x smaller-number p (omega (arith, key-smaller))

  pub smaller-right : T (le (smaller x y) y)
  smaller-right = key→le f (smaller x y) y smaller-number q (omega (arith, key-smaller))

  pub smaller-greatest : (z : Float) → T (number f z) → T (le z x) → T (le z y) → T (le z (smaller x y))
  smaller-greatest z r h k = key→le f z (smaller x y) r smaller-number (omega (arith, key-smaller, le→key f z x r p h, le→key f z y r q k))

module _ (f : Format) (x x' y y' : Float) (p : T (number f x)) (p' : T (number f x')) (q : T (number f y)) (q' : T (number f y')) where
  pub larger-mono : T (le x x') → T (le y y') → T (le (larger x y) (larger x' y'))
  larger-mono h k =
      key→le f (larger x y) (larger x' y') (larger-number f x y p q) (larger-number f x' y' p' q')
      (omega (arith, key-larger f x y p q, key-larger f x' y' p' q', le→key f x x' p p' h, le→key f y y' q q' k))

  pub smaller-mono : T (le x x') → T (le y y') → T (le (smaller x y) (smaller x' y'))
  smaller-mono h k =
      key→le f (smaller x y) (smaller x' y') (smaller-number f x y p q) (smaller-number f x' y' p' q')
      (omega (arith, key-smaller f x y p q, key-smaller f x' y' p' q', le→key f x x' p p' h, le→key f y y' q q' k))

pub larger-comm : (f : Format) (x y : Float) → T (number f x) → T (number f y) → T (eq (larger x y) (larger y x))
larger-comm f x y p q =
    key→eq f (larger x y) (larger y x) (larger-number f x y p q) (larger-number f y x q p) (omega (arith, key-larger f x y p q, key-larger f y x q p))

-- ---- document 01: a clamp gives the low end below it, the high end above it, else the number
-- itself
abbrev pub clamp : Float → Float → Float → Float
clamp lo hi x = cond (lt x lo) lo (cond (lt hi x) hi x)

module _ (f : Format) (lo hi : Float) (p : T (number f lo)) (q : T (number f hi)) (ends : T (le lo hi)) where
  module _ (x : Float) (r : T (number f x)) where
    pub clamp-number : T (number f (clamp lo hi x))
    clamp-number = go (lt x lo) (lt hi x)
      where
        go : (b c : Bool) → T (number f (cond b lo (cond c hi x)))
        go true c = p
        go false true = q
        go false false = r

    pub key-clamp : key f (clamp lo hi x) ≡ max (key f lo) (min (key f hi) (key f x))
    key-clamp =
        go (lt x lo) (lt hi x) (lt→key f x lo r p) (λ (n : T (not (lt x lo))). le→key f lo x p r (not-lt-f f x lo r p n)) (lt→key f hi x q r)
        (λ (n : T (not (lt hi x))). le→key f x hi r q (not-lt-f f hi x q r n))
      where
        order : key f lo ≤ key f hi
        order = le→key f lo hi p q ends

        go : (b c : Bool) → (T b → key f x < key f lo) → (T (not b) → key f lo ≤ key f x) → (T c → key f hi < key f x) → (T (not c) → key f x ≤ key f hi)
            → key f (cond b lo (cond c hi x)) ≡ max (key f lo) (min (key f hi) (key f x))
        go true c a a' b b' = omega (arith, a tt, order)
        go false true a a' b b' = omega (arith, b tt, order)
        go false false a a' b b' = omega (arith, a' tt, b' tt)

    pub clamp-low : T (le lo (clamp lo hi x))
    clamp-low = key→le f lo (clamp lo hi x) p clamp-number (omega (arith, key-clamp))

    pub clamp-high : T (le (clamp lo hi x) hi)
    clamp-high = key→le f (clamp lo hi x) hi clamp-number q (omega (arith, key-clamp, le→key f lo hi p q ends))

  pub clamp-mono : (x y : Float) → T (number f x) → T (number f y) → T (le x y) → T (le (clamp lo hi x) (clamp lo hi y))
  clamp-mono x y r s h =
      key→le f (clamp lo hi x) (clamp lo hi y) (clamp-number x r) (clamp-number y s) (omega (arith, key-clamp x r, key-clamp y s, le→key f x y r s h))

  -- within the ends it is the number itself, to the bit
  pub clamp-within : (x : Float) → T (number f x) → T (le lo x) → T (le x hi) → clamp lo hi x ≡ x
  clamp-within x r h k =
      ap (λ (b : Bool). cond b lo (cond (lt hi x) hi x)) (is_false (lt x lo) (le→not-lt-f f lo x p r h))
      ∙ ap (λ (b : Bool). cond b hi x) (is_false (lt hi x) (le→not-lt-f f x hi r q k))

-- ---- document 01: the maximum of a and b is b if a < b, else a; where one of the two is NaN, the
-- other, as Rust's is
abbrev pub maximum : Float → Float → Float
maximum a b = cond (lt a b) b (cond (is_nan a) b a)

pub maximum-number : (f : Format) (x y : Float) → T (number f x) → maximum x y ≡ larger x y
unfolding is_nan
maximum-number f nan y p = absurd p
maximum-number f (inf s) y p = refl
maximum-number f (fin s m e) y p = refl

pub maximum-nan-left : (y : Float) → maximum nan y ≡ y
unfolding is_nan lt
maximum-nan-left y = refl

pub maximum-nan-right : (x : Float) → maximum x nan ≡ x
unfolding is_nan lt
maximum-nan-right nan = refl
maximum-nan-right (inf s) = refl
maximum-nan-right (fin s m e) = refl
