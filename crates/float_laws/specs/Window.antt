-- The dual window over one residue class, as the list of the class's values: the operations in the
-- order of the code, and the bound of Dual for them. Assumes nothing.
use Rattle.std.specs.Prelude.{◌≡◌, refl, Bool, true, false, pos, T, get_or, take, drop, Float}
use Rattle.std.proofs.Math.Path.{sym, subst}
use Rattle.std.proofs.Common.{ap, ◌∙◌, mul_comm, mul_assoc, mul_left_comm, mul_right_comm, add_comm, le_of_eq, le_of_lt, lt_of_le_of_lt, mul-le-mul, mul-le-mul_right, le_of_mul-le-mul_right, pow-suc, div-one, pow_pos, pow_mono, lit≤, length-append, take-append-drop}
use mathlib.Core.List.{List, [], ◌∷◌, ◌++◌}
use Prim.Native.Nat.{ℕ, suc, ◌+◌, ◌-◌, ◌*◌, ◌^◌, ◌≤◌, ◌<◌}
use Rattle.std.proofs.Math.Nat.{zero-add, le_trans}
use native.Mathlib.Omega.{arith}
use Rattle.std.proofs.Math.Dec.{not_T}
use Rattle.std.proofs.Math.ListN.{length}
use Rattle.std.specs.Float.Ieee.{nan, prec, emax, low, fits, add, mul, div, lt, le, unlike, round, neg}
use Rattle.std.specs.Float.{fin, Format}
use Rattle.std.specs.Float.Ieee.Bits.{cond_no}
use Rattle.std.specs.Float.Ieee.Scale.{overflow}
use Rattle.lists.specs.Maps.{tabulate, length-tab}
use Rattle.lists.specs.Folds.{fold, range}
use Rattle.lists.specs.Totals.{total, All, total-append, all_append, all_take, all_drop, all-at, all-tab, total-tab, total-get_or}
use Rattle.float_laws.specs.Units.{mag, sign, real, key, keyed, real-of-size, mag-below, lt→key, le→key, real-number, keyed-le}
use Rattle.float_laws.specs.Order.{maximum, maximum-number, le_left}
use Rattle.float_laws.specs.Round.{plus_zero, rnd, sign-round, mag-round, round_number, mag-zero, real-zero, squared-pos}
use Rattle.float_laws.specs.Ops.{mul-round, div-round, add-sum, sum-clear, unlike-clear}
use Rattle.float_laws.specs.Mono.{rnd_u, rnd_m, real-neg}
use Rattle.float_laws.specs.Error.{Within, Close, rnd-within, rnd-close, hi-32, lo-32}
use Rattle.float_laws.specs.Bounds.{real-between}
use Rattle.float_laws.specs.Power.{rnd-power, power_below, real-power}
use Rattle.float_laws.specs.Near.{B, Near, near_of, untimes}
use Rattle.float_laws.specs.Dual.{rolled, Steps, sum_near, Sq, sq, squares-near, Item, Good, prod, square, dual-near}

-- ---- the code's steps
abbrev pub squared : Format → Float → Float
squared f x = mul f x x

-- the squares of a list's values, summed from the left onto d
abbrev pub energy : Format → Float → List Float → Float
energy f d ys = fold (λ s x. add f s (squared f x)) d ys

-- the value x over that sum, or over c where the sum is below c
abbrev pub dual : Format → Float → List Float → Float → Float
dual f c ys x = div f x (maximum (energy f plus_zero ys) c)

-- the list read from index j on, wrapping around at its end
abbrev pub turn : ℕ → List Float → List Float
turn j xs = drop j xs ++ take j xs

-- ---- a finite value with a clear sign
record Plain (f : Format) (x : Float) (n : ℕ) : Type 0 where
  is_real : T (real f x)
  clear : sign x ≡ false
  size : mag f x ≡ n

plain-round : (f : Format) (a c : ℕ) → rnd f a c < overflow f → Plain f (round f false a c) (rnd f a c)
plain-round f a c h =
    record {
      is_real = real-of-size f (round f false a c) (round_number f false a c) (lt_of_le_of_lt (le_of_eq (mag-round f false a c)) h);
      clear = sign-round f false a c;
      size = mag-round f false a c;
    }

unlike-self : (s : Bool) → unlike s s ≡ false
unlike-self true = refl
unlike-self false = refl

square-plain : (f : Format) (x : Float) → T (real f x) → rnd_m f (mag f x) (mag f x) < overflow f → Plain f (mul f x x) (rnd_m f (mag f x) (mag f x))
square-plain f x p h =
    subst (λ (z : Float). Plain f z (rnd_m f (mag f x) (mag f x)))
    (ap (λ (s : Bool). round f s (mag f x * mag f x) (2 ^ low f * 2 ^ low f)) (sym (unlike-self (sign x))) ∙ sym (mul-round f x x p p))
    (plain-round f (mag f x * mag f x) (2 ^ low f * 2 ^ low f) h)

add-plain : (f : Format) (x y : Float) (m n : ℕ) → Plain f x m → Plain f y n → rnd_u f (m + n) < overflow f → Plain f (add f x y) (rnd_u f (m + n))
add-plain f x y m n p q h =
    subst (λ (z : Float). Plain f z (rnd_u f (m + n)))
    (sym
    (add-sum f x y p.is_real q.is_real
    ∙ sum-clear f (sign x) (sign y) (mag f x) (mag f y) (2 ^ low f) p.clear q.clear
    ∙ ap (λ (z : ℕ). round f false (z + mag f y) (2 ^ low f)) p.size
    ∙ ap (λ (z : ℕ). round f false (m + z) (2 ^ low f)) q.size))
    (plain-round f (m + n) (2 ^ low f) h)

abbrev mags : Format → List Float → List ℕ
mags f [] = []
mags f (x ∷ xs) = mag f x ∷ mags f xs

-- a value whose size is at most 16
pub record AtMost16 (f : Format) (x : Float) : Type 0 where
  pub is_real : T (real f x)
  pub small : mag f x ≤ 16 * 2 ^ low f

-- ---- arithmetic that is not linear, over variables
square_le : (m L : ℕ) → m ≤ 16 * L → m * m * L ≤ 256 * L * (L * L)
square_le m L h =
    let a : m * m ≤ 16 * L * (16 * L) = mul-le-mul h h in
    let e : 16 * L * (16 * L) ≡ 256 * (L * L) = simp (mul_assoc, mul_left_comm) (omega arith) in
    let g : 256 * (L * L) * L ≡ 256 * L * (L * L) = simp mul_assoc in
    le_trans (mul-le-mul_right L (le_trans a (le_of_eq e))) (le_of_eq g)

module _ (q m L : ℕ) (L0 : 0 < L) where
  left : L * (q * L) ≡ q * (L * L)
  left = mul_left_comm L q L

  right : L * (m * m) ≡ m * m * L
  right = mul_comm L (m * m)

  strip-hi : 8388608 * (2 * (q * (L * L))) ≤ 8388608 * (2 * (m * m * L)) + (m * m * L + 8388608 * (L * L)) → B * (q * L) ≤ 16777217 * (m * m) + 8388608 * L
  strip-hi h = untimes L B 16777217 8388608 (q * L) (m * m) L L0 (omega (arith, left, right))

  strip-lo : 8388608 * (2 * (m * m * L)) ≤ 8388608 * (2 * (q * (L * L))) + (m * m * L + 8388608 * (L * L)) → 16777215 * (m * m) ≤ B * (q * L) + 8388608 * L
  strip-lo h = untimes L 16777215 B 8388608 (m * m) (q * L) L L0 (omega (arith, left, right))

double : (j d q L : ℕ) → 8 ≤ j → d ≤ 2 ^ j * L → q ≤ 256 * L → d + q ≤ 2 ^ suc j * L
double j d q L h a b =
    let c : 256 * L ≤ 2 ^ j * L = mul-le-mul_right L (pow_mono h) in
    let e : 2 ^ suc j * L ≡ 2 ^ j * L * 2 = ap (λ (z : ℕ). z * L) (pow-suc 2 j) ∙ mul_right_comm (2 ^ j) 2 L in
    omega arith

-- ---- a format of 24 digits
module _ (f : Format) (P : 2 ^ (prec f - 1) ≡ 8388608) (big : 2 ^ 57 ≤ 2 ^ low f) (wide : 64 ≤ emax f) where
  L0 : 0 < 2 ^ low f
  L0 = pow_pos (low f)

  abbrev q : ℕ → ℕ
  q m = rnd_m f m m

  abbrev up : ℕ → ℕ → ℕ
  up d g = rnd_u f (d + g)

  q-le : (m : ℕ) → m ≤ 16 * 2 ^ low f → q m ≤ 256 * 2 ^ low f
  q-le m h = rnd-power f 8 (m * m) (2 ^ low f * 2 ^ low f) (le_trans (lit≤ tt) wide) (squared-pos f) (square_le m (2 ^ low f) h)

  q-below : (m : ℕ) → m ≤ 16 * 2 ^ low f → q m < overflow f
  q-below m h = lt_of_le_of_lt (q-le m h) (power_below f 8 (le_trans (lit≤ tt) wide))

  q-sq : (m : ℕ) → m ≤ 16 * 2 ^ low f → Sq (2 ^ low f) q m
  q-sq m h =
      let w = subst (λ (z : ℕ). Within z (m * m * 2 ^ low f) (2 ^ low f * 2 ^ low f) (q m)) P (rnd-within f (m * m) (2 ^ low f * 2 ^ low f) (squared-pos f) (q-below m h)) in
      record { hi = strip-hi (q m) m (2 ^ low f) L0 w.hi; lo = strip-lo (q m) m (2 ^ low f) L0 w.lo }

  near_up : (n : ℕ) → rnd_u f n < overflow f → Near 1 (rnd_u f n) n
  near_up n h =
      let w = subst (λ (z : ℕ). Close z n (rnd_u f n)) P (rnd-close f n h) in
      near_of 1 (rnd_u f n) n n n (omega (arith, w.hi)) (omega (arith, w.lo)) (omega arith) (omega arith)

  up_le : (j d g : ℕ) → 8 ≤ j → suc j ≤ 64 → d ≤ 2 ^ j * 2 ^ low f → g ≤ 256 * 2 ^ low f → up d g ≤ 2 ^ suc j * 2 ^ low f
  up_le j d g h k a b = rnd-power f (suc j) (d + g) (2 ^ low f) (le_trans k wide) L0 (mul-le-mul_right (2 ^ low f) (double j d g (2 ^ low f) h a b))

  up-below : (j d g : ℕ) → 8 ≤ j → suc j ≤ 64 → d ≤ 2 ^ j * 2 ^ low f → g ≤ 256 * 2 ^ low f → up d g < overflow f
  up-below j d g h k a b = lt_of_le_of_lt (up_le j d g h k a b) (power_below f (suc j) (le_trans k wide))

  -- the sum's roundings, and the sum
  steps : (j d : ℕ) (xs : List Float) → 8 ≤ j → j + length xs ≤ 64 → d ≤ 2 ^ j * 2 ^ low f → All (AtMost16 f) xs → Steps up q d (mags f xs)
  steps j d [] h k a b = tt
  steps j d (x ∷ xs) h k a b =
      let g = q-le (mag f x) b.0.small in
      let s : suc j ≤ 64 = omega arith in
      (near_up (d + q (mag f x)) (up-below j d (q (mag f x)) h s a g), steps (suc j) (up d (q (mag f x))) xs (omega arith) (omega arith) (up_le j d (q (mag f x)) h s a g) b.1)

  energy-plain : (j : ℕ) (d : Float) (n : ℕ) (xs : List Float) → 8 ≤ j → j + length xs ≤ 64 → Plain f d n → n ≤ 2 ^ j * 2 ^ low f → All (AtMost16 f) xs
      → Plain f (energy f d xs) (rolled up q n (mags f xs))
  unfolding fold
  energy-plain j d n [] h k p a b = p
  energy-plain j d n (x ∷ xs) h k p a b =
      let m = mag f x in
      let g = q-le m b.0.small in
      let s : suc j ≤ 64 = omega arith in
      energy-plain (suc j) (add f d (mul f x x)) (up n (q m)) xs (omega arith) (omega arith)
      (add-plain f d (mul f x x) n (q m) p (square-plain f x b.0.is_real (q-below m b.0.small)) (up-below j n (q m) h s a g))
      (up_le j n (q m) h s a g) b.1

-- ---- the divisor, over variables
floor : (L Q S : ℕ) → Near 2 (Q * L) S → L * L ≤ 2 ^ 30 * S → 0 < L → L ≤ 2 ^ 31 * Q
floor L Q S n h L0 =
    let a : L * L ≤ 2 ^ 31 * (Q * L) = omega (arith, n.under) in
    le_of_mul-le-mul_right (le_trans a (le_of_eq (sym (mul_assoc (2 ^ 31) Q L)))) L0

floor-e : (L Q e : ℕ) → L ≤ 2 ^ 31 * Q → Near 16 e Q → L ≤ 2 ^ 32 * e
floor-e L Q e h n = omega (arith, n.under)

over : (K c e s : ℕ) → K + e < s → s ≤ K + c → (L : ℕ) → L ≤ 2 ^ 32 * e → 2 ^ 39 * c ≤ L → ⊥
over K c e s h g L a b = omega arith

quot_le : (m e L : ℕ) → m ≤ 16 * L → L ≤ 2 ^ 32 * e → m * L ≤ 2 ^ 36 * L * e
quot_le m e L h k =
    let a : m ≤ 2 ^ 36 * e = omega arith in
    le_trans (mul-le-mul_right L a) (le_of_eq (mul_right_comm (2 ^ 36) e L))

mags-length : (f : Format) (xs : List Float) → length (mags f xs) ≡ length xs
mags-length f [] = refl
mags-length f (x ∷ xs) = ap suc (mags-length f xs)

-- ---- one quotient: ys are the values whose squares are summed, and Q is the sum of the rounded
-- squares
module _ (f : Format) (P : 2 ^ (prec f - 1) ≡ 8388608) (big : 2 ^ 57 ≤ 2 ^ low f) (wide : 64 ≤ emax f) (c : Float) (cr : T (real f c))
    (cs : 2 ^ 39 * mag f c ≤ 2 ^ low f) (Q : ℕ) (fl : 2 ^ low f ≤ 2 ^ 31 * Q) where
  module _ (ys : List Float) (ok : All (AtMost16 f) ys) (few : length ys ≤ 16) (same : total (λ m. rnd_m f m m) (mags f ys) ≡ Q) where
    e : ℕ
    e = rolled (λ d g. rnd_u f (d + g)) (λ m. rnd_m f m m) 0 (mags f ys)

    plain-o : Plain f plus_zero 0
    plain-o = record { is_real = real-zero f false; clear = refl; size = mag-zero f false (pos 0) }

    plain-e : Plain f (energy f plus_zero ys) e
    unfolding e
    plain-e = energy-plain f P big wide 8 plus_zero 0 ys (omega arith) (omega arith) plain-o (omega arith) ok

    near-e : Near 16 e Q
    unfolding e
    near-e =
        let l : length (mags f ys) ≤ 16 = le_trans (le_of_eq (mags-length f ys)) few in
        subst (λ (z : ℕ). Near 16 (rolled (λ d g. rnd_u f (d + g)) (λ m. rnd_m f m m) 0 (mags f ys)) z) same
        (sum_near (λ d g. rnd_u f (d + g)) (λ m. rnd_m f m m) (mags f ys) l (steps f P big wide 8 0 ys (omega arith) (omega arith) (omega arith) ok))

    floor-is : 2 ^ low f ≤ 2 ^ 32 * e
    floor-is = floor-e (2 ^ low f) Q e fl near-e

    key-e : key f (energy f plus_zero ys) ≡ overflow f + e
    key-e = ap (λ (s : Bool). keyed (overflow f) s (mag f (energy f plus_zero ys))) plain-e.clear ∙ ap (λ (z : ℕ). overflow f + z) plain-e.size

    divisor-is : maximum (energy f plus_zero ys) c ≡ energy f plus_zero ys
    divisor-is =
        let E = energy f plus_zero ys in
        maximum-number f E c (real-number f E plain-e.is_real)
        ∙ cond_no (lt E c) c E
        (not_T (lt E c)
        (λ (h : T (lt E c)).
        over (overflow f) (mag f c) e (key f c)
        (subst (λ (z : ℕ). z < key f c) key-e (lt→key f E c (real-number f E plain-e.is_real) (real-number f c cr) h))
        (keyed-le (overflow f) (sign c) (mag f c)) (2 ^ low f) floor-is cs))

    e-pos : 0 < e
    e-pos = positive-e (2 ^ low f) e floor-is (pow_pos (low f))
      where
        positive-e : (L e : ℕ) → L ≤ 2 ^ 32 * e → 0 < L → 0 < e
        positive-e L e h p = omega arith

    module _ (x : Float) (okx : AtMost16 f x) where
      dual-round : dual f c ys x ≡ round f (sign x) (mag f x) e
      dual-round =
          let E = energy f plus_zero ys in
          ap (div f x) divisor-is
          ∙ div-round f x E okx.is_real plain-e.is_real (subst (λ (z : ℕ). 0 < z) (sym plain-e.size) e-pos)
          ∙ ap (λ (s : Bool). round f s (mag f x) (mag f E)) (unlike-clear (sign x) (sign E) plain-e.clear)
          ∙ ap (λ (z : ℕ). round f (sign x) (mag f x) z) plain-e.size

      dual-sign : sign (dual f c ys x) ≡ sign x
      dual-sign = ap sign dual-round ∙ sign-round f (sign x) (mag f x) e

      quotient_le : rnd f (mag f x) e ≤ 2 ^ 36 * 2 ^ low f
      quotient_le = rnd-power f 36 (mag f x) e (le_trans (lit≤ tt) wide) e-pos (quot_le (mag f x) e (2 ^ low f) okx.small floor-is)

      dual-real : T (real f (dual f c ys x))
      dual-real =
          subst (λ (z : Float). T (real f z)) (sym dual-round)
          (real-of-size f (round f (sign x) (mag f x) e) (round_number f (sign x) (mag f x) e)
          (lt_of_le_of_lt (le_trans (le_of_eq (mag-round f (sign x) (mag f x) e)) quotient_le) (power_below f 36 (le_trans (lit≤ tt) wide))))

      quotient-good : Good (2 ^ low f) Q (record { m = mag f x; D = e; t = mag f (dual f c ys x) })
      quotient-good =
          let t = mag f (dual f c ys x) in
          let is : rnd f (mag f x) e ≡ t = sym (ap (mag f) dual-round ∙ mag-round f (sign x) (mag f x) e) in
          let w = subst (λ (z : ℕ). Within z (mag f x * 2 ^ low f) e (rnd f (mag f x) e)) P (rnd-within f (mag f x) e e-pos (lt_of_le_of_lt quotient_le (power_below f 36 (le_trans (lit≤ tt) wide)))) in
          let v = subst (λ (z : ℕ). Within 8388608 (mag f x * 2 ^ low f) e z) is w in
          record { hi = hi-32 (t * e) (mag f x * 2 ^ low f) e v.hi; lo = lo-32 (t * e) (mag f x * 2 ^ low f) e v.lo; near = near-e; small = okx.small }

-- ---- the list read from another place: the same length, the same values, the same sums
pub length-turn : (j : ℕ) (xs : List Float) → length (turn j xs) ≡ length xs
length-turn j xs =
    length-append (drop j xs) (take j xs)
    ∙ add_comm (length (drop j xs)) (length (take j xs))
    ∙ sym (length-append (take j xs) (drop j xs))
    ∙ ap length (take-append-drop j xs)

all-turn : (P : Float → Type 0) (j : ℕ) (xs : List Float) → All P xs → All P (turn j xs)
all-turn P j xs h = all_append P (drop j xs) (take j xs) (all_drop P j xs h) (all_take P j xs h)

total-mags : (f : Format) (g : ℕ → ℕ) (xs : List Float) → total g (mags f xs) ≡ total (λ x. g (mag f x)) xs
unfolding total
total-mags f g [] = refl
total-mags f g (x ∷ xs) = ap (λ (z : ℕ). g (mag f x) + z) (total-mags f g xs)

total-turn : (f : Format) (g : ℕ → ℕ) (j : ℕ) (xs : List Float) → total g (mags f (turn j xs)) ≡ total g (mags f xs)
total-turn f g j xs =
    let h : Float → ℕ = λ x. g (mag f x) in
    total-mags f g (turn j xs)
    ∙ total-append h (drop j xs) (take j xs)
    ∙ add_comm (total h (drop j xs)) (total h (take j xs))
    ∙ sym (total-append h (take j xs) (drop j xs))
    ∙ ap (total h) (take-append-drop j xs)
    ∙ sym (total-mags f g xs)

-- ---- all quotients: the value at place j, and its dual, the sum being taken from j on
module _ (f : Format) (P : 2 ^ (prec f - 1) ≡ 8388608) (big : 2 ^ 57 ≤ 2 ^ low f) (wide : 64 ≤ emax f) (c : Float) (cr : T (real f c))
    (cs : 2 ^ 39 * mag f c ≤ 2 ^ low f) (xs : List Float)
    (ok : All (AtMost16 f) xs) (few : length xs ≤ 16) (enough : 2 ^ low f * 2 ^ low f ≤ 2 ^ 30 * total (λ x. mag f x * mag f x) xs) where
  abbrev value : ℕ → Float
  value j = get_or xs j nan

  abbrev partner : ℕ → Float
  partner j = dual f c (turn j xs) (value j)

  abbrev Q : ℕ
  Q = total (λ m. rnd_m f m m) (mags f xs)

  all-sq : (ys : List Float) → All (AtMost16 f) ys → All (Sq (2 ^ low f) (λ m. rnd_m f m m)) (mags f ys)
  all-sq [] h = tt
  all-sq (x ∷ ys) h = (q-sq f P big wide (mag f x) h.0.small, all-sq ys h.1)

  enough-mags : 2 ^ low f * 2 ^ low f ≤ 2 ^ 30 * total sq (mags f xs)
  enough-mags = subst (λ (z : ℕ). 2 ^ low f * 2 ^ low f ≤ 2 ^ 30 * z) (sym (total-mags f sq xs)) enough

  near-Q : Near 2 (Q * 2 ^ low f) (total sq (mags f xs))
  near-Q = squares-near (2 ^ low f) (λ m. rnd_m f m m) (mags f xs) big enough-mags (le_trans (le_of_eq (mags-length f xs)) few) (all-sq xs ok)

  floor-Q : 2 ^ low f ≤ 2 ^ 31 * Q
  floor-Q = floor (2 ^ low f) Q (total sq (mags f xs)) near-Q enough-mags (pow_pos (low f))

  module _ (j : ℕ) (h : j < length xs) where
    okx : AtMost16 f (value j)
    okx = all-at (AtMost16 f) xs j nan ok h

    oks : All (AtMost16 f) (turn j xs)
    oks = all-turn (AtMost16 f) j xs ok

    fews : length (turn j xs) ≤ 16
    fews = le_trans (le_of_eq (length-turn j xs)) few

    same : total (λ m. rnd_m f m m) (mags f (turn j xs)) ≡ Q
    same = total-turn f (λ m. rnd_m f m m) j xs

    pub window-sign : sign (partner j) ≡ sign (value j)
    window-sign = dual-sign f P big wide c cr cs Q floor-Q (turn j xs) oks fews same (value j) okx

    pub window-real : T (real f (partner j))
    window-real = dual-real f P big wide c cr cs Q floor-Q (turn j xs) oks fews same (value j) okx

    one-good : Good (2 ^ low f) Q (record { m = mag f (value j); D = e f P big wide c cr cs Q floor-Q (turn j xs) oks fews same; t = mag f (partner j) })
    one-good = quotient-good f P big wide c cr cs Q floor-Q (turn j xs) oks fews same (value j) okx

  abbrev item : ℕ → Item
  item j = record { m = mag f (value j); D = rolled (λ d g. rnd_u f (d + g)) (λ m. rnd_m f m m) 0 (mags f (turn j xs)); t = mag f (partner j) }

  pub window-near : Near 20 (total (λ j. mag f (value j) * mag f (partner j)) (range 0 (length xs))) (2 ^ low f * 2 ^ low f)
  unfolding e
  window-near =
      let L = 2 ^ low f in
      let items = tabulate (length xs) item in
      let is : total sq (mags f xs) ≡ total square items = total-mags f sq xs ∙ total-get_or nan (λ x. mag f x * mag f x) xs ∙ sym (total-tab square item 0 (length xs)) in
      let good : All (Good L Q) items = all-tab (Good L Q) item 0 (length xs) (λ j a b. one-good j (rw zero-add at b)) in
      subst (λ (z : ℕ). Near 20 z (L * L)) (total-tab prod item 0 (length xs))
      (dual-near L Q items good (le_trans (le_of_eq (length-tab item 0 (length xs))) few) big
      (subst (λ (z : ℕ). L * L ≤ 2 ^ 30 * z) is enough-mags)
      (subst (λ (z : ℕ). Near 2 (Q * L) z) is near-Q))

-- ---- the hypotheses as a caller has them: a value of f32 from -16 to 16
abbrev pub sixteen : Bool → Float
sixteen s = fin s 1 (pos 4)

mag-sixteen : (f : Format) (s : Bool) → mag f (sixteen s) ≡ 16 * 2 ^ low f
unfolding mag
mag-sixteen f s = div-one (1 * 16 * 2 ^ low f)

size-within : (K : ℕ) (s : Bool) (m b : ℕ) → m ≤ K → b < K → K - b ≤ keyed K s m → keyed K s m ≤ K + b → m ≤ b
size-within K false m b M B h k = omega arith
size-within K true m b M B h k = omega arith

pub at-most-16 : (f : Format) (x : Float) → 4 ≤ emax f → T (fits f x) → T (le (sixteen true) x) → T (le x (sixteen false)) → AtMost16 f x
unfolding fits neg
at-most-16 f x w p h k =
    let hi = sixteen-real false in
    let lo = sixteen-real true in
    let n = le_left f x (sixteen false) p k in
    let r = real-between f (sixteen true) x (sixteen false) n lo hi h k in
    let b : 16 * 2 ^ low f < overflow f = power_below f 4 w in
    let a = rw mag-sixteen at (le→key f (sixteen true) x (real-number f (sixteen true) lo) n h) in
    let c = rw mag-sixteen at (le→key f x (sixteen false) n (real-number f (sixteen false) hi) k) in
    record { is_real = r; small = size-within (overflow f) (sign x) (mag f x) (16 * 2 ^ low f) (le_of_lt (mag-below f x r)) b a c }
  where
    sixteen-real : (s : Bool) → T (real f (sixteen s))
    sixteen-real true = real-neg f (sixteen false) (real-power f 4 w)
    sixteen-real false = real-power f 4 w
