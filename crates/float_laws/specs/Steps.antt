-- A sum with a constant so large that a value of its size has no digits below a step of 2 ^ k
-- units: the sum is rounded to a whole number of steps, and its bit pattern counts them.
-- So the floor of x in steps comes from one sum: the low digits of the pattern are the floor, or
-- one more where the rounding went up, and that is where x is below the sum less the constant.
-- The constant c is m steps, and t is x + c, in units. Between 2 ^ (prec - 1) and 2 ^ prec steps a
-- value has just `prec` digits down to a step. Assumes nothing.
use Rattle.std.specs.Prelude.{◌≡◌, refl, Bool, true, not, cond, ℕ, suc, ◌+◌, ◌-◌, ◌*◌, ◌/◌, ◌%◌, ◌^◌, ◌≤◌, ◌<◌, T, Float}
use Rattle.std.proofs.Common.{sym, ap, ◌∙◌, subst, inl, inr, le_trans, le_of_eq, le_of_lt, lt_of_le_of_lt, lt_of_lt_of_le, eq-or-lt_of_le, zero-add, mul-pos, mul_right_comm, add-mul, suc-mul, mul-le-mul_right, mul-lt-mul_of_pos_right, le_of_mul-le-mul_right, lt_of_mul-lt-mul_right, mul-div_cancel, le-div_iff_mul-le, div-add-mod', mod-lt, mod-eq_of_lt, arith, pow_pos, pow-add, pow_mono, lit≤}
use Rattle.std.proofs.Math.Bool.{false}
use Rattle.std.proofs.Math.Nat.{eq_of_mul-eq-mul_right, div-eq_of_lt, add-mul-div_right, add-mul-mod_self_right}
use Rattle.std.specs.Float.{nan, inf, fin, Format, binary32, binary64}
use Rattle.std.specs.Float.Ieee.{prec, emax, low, hid, ones, top, is_nan, lt, le, round, add, sub, to_bits, of_bits}
use Rattle.std.specs.Float.Ieee.Bits.{to_bits-of_bits}
use Rattle.std.specs.Float.Ieee.Scale.{overflow}
use Rattle.float_laws.specs.Units.{mag, sign, number, real, key, keyed, real-number, real-of-size, mag-below, keyed-ge, keyed-le, le→key, lt→key, key→lt, unique}
use Rattle.float_laws.specs.Power.{power, mag-power, real-power}
use Rattle.float_laws.specs.Round.{plus_zero, Held, rnd, rnd-held, held-real, round_number}
use Rattle.float_laws.specs.Signs.{sub-mul}
use Rattle.float_laws.specs.Mono.{center-up, rnd_u, rnd_u-mono, add-key, add-number, sub_number, size-nonneg}
use Rattle.float_laws.specs.Exact.{apart, held_small, held-times, held-multiple, sub-exact}
use Rattle.float_laws.specs.Bits.{scaled, bits_key, bits-number}

twice_hid : (f : Format) → hid f * 2 ≡ 2 ^ prec f
twice_hid binary32 = refl
twice_hid binary64 = refl

-- a key above zero's is that of a positive value
positive : (K : ℕ) (s : Bool) (m n : ℕ) → 0 < n → keyed K s m ≡ K + n → (s ≡ false) × (m ≡ n)
positive K false m n h e = (refl, omega arith)
positive K true m n h e = absurd (omega arith)

pub number-no-nan : (f : Format) (x : Float) → T (number f x) → T (not (is_nan x))
unfolding is_nan
number-no-nan f nan p = p
number-no-nan f (inf s) p = tt
number-no-nan f (fin s m e) p = tt

-- ---- the pattern of n steps
module _ (f : Format) (k n : ℕ) (lo : hid f ≤ n) (hi : n < hid f * 2) (room : prec f + k ≤ low f + suc (emax f)) where
  abbrev pattern : ℕ
  pattern = n + k * hid f

  split : pattern ≡ n - hid f + suc k * hid f
  split = omega (arith, suc-mul k (hid f))

  rest : n - hid f < hid f
  rest = omega arith

  field : pattern / hid f ≡ suc k
  field = ap (λ (z : ℕ). z / hid f) split ∙ add-mul-div_right (n - hid f) (suc k) (pow_pos (prec f - 1)) ∙ ap (λ (z : ℕ). z + suc k) (div-eq_of_lt rest) ∙ zero-add (suc k)

  digits : pattern % hid f ≡ n - hid f
  digits = ap (λ (z : ℕ). z % hid f) split ∙ add-mul-mod_self_right (n - hid f) (suc k) (hid f) ∙ mod-eq_of_lt rest

  under : pattern ≤ ones f * hid f
  under = le_trans (omega (arith, suc-mul k (hid f), suc-mul (suc k) (hid f))) (mul-le-mul_right (hid f) fields)
    where
      enough : (f : Format) → prec f + k ≤ low f + suc (emax f) → suc (suc k) ≤ ones f
      enough binary32 h = omega arith
      enough binary64 h = omega arith

      fields : suc (suc k) ≤ ones f
      fields = enough f room

  below_both : pattern < 2 * top f
  below_both = lt_of_le_of_lt under (omega (arith, suc-mul (ones f) (hid f)))

  key-pattern : key f (of_bits f pattern) ≡ overflow f + n * 2 ^ k
  key-pattern =
      let w : hid f + (n - hid f) ≡ n = omega arith in
      bits_key f pattern under
      ∙ ap (λ (z : ℕ). overflow f + scaled f z (pattern % hid f)) field
      ∙ ap (λ (z : ℕ). overflow f + (hid f + z) * 2 ^ k) digits
      ∙ ap (λ (z : ℕ). overflow f + z * 2 ^ k) w

  pub steps-pattern : (s : Float) → T (number f s) → key f s ≡ overflow f + n * 2 ^ k → to_bits f s ≡ n + k * hid f
  steps-pattern s p e =
      let b = bits-number f pattern under in
      let some : 0 < n * 2 ^ k = mul-pos (lt_of_lt_of_le (pow_pos (prec f - 1)) lo) (pow_pos k) in
      let x = positive (overflow f) (sign s) (mag f s) (n * 2 ^ k) some e in
      let y = positive (overflow f) (sign (of_bits f pattern)) (mag f (of_bits f pattern)) (n * 2 ^ k) some key-pattern in
      ap (to_bits f) (unique f s (of_bits f pattern) p b (x.0 ∙ sym y.0) (x.1 ∙ sym y.1))
      ∙ to_bits-of_bits f pattern below_both (number-no-nan f (of_bits f pattern) b)

  pub steps-digits : (s : Float) → T (number f s) → key f s ≡ overflow f + n * 2 ^ k → to_bits f s % hid f ≡ n - hid f
  steps-digits s p e = ap (λ (z : ℕ). z % hid f) (steps-pattern s p e) ∙ digits

-- ---- the sum
module _ (f : Format) (x c : Float) (k m t : ℕ) (p : T (real f x)) (q : T (real f c)) (C : key f c ≡ overflow f + m * 2 ^ k) (E : key f x + m * 2 ^ k ≡ overflow f + t)
    (M : m ≤ hid f * 2) (lo : hid f * 2 ^ k ≤ t) (hi : t + 2 ^ k ≤ hid f * 2 * 2 ^ k) (room : prec f + k ≤ low f + suc (emax f)) where
  -- the whole steps in t
  abbrev Q : ℕ
  Q = t / 2 ^ k

  from : Q * 2 ^ k ≤ t
  from = (le-div_iff_mul-le (pow_pos k)).0 (le_of_eq refl)

  next : t < suc Q * 2 ^ k
  next = omega (arith, div-add-mod' t (2 ^ k), mod-lt t (pow_pos k), suc-mul Q (2 ^ k))

  enough : hid f ≤ Q
  enough = (le-div_iff_mul-le (pow_pos k)).1 lo

  -- t is below the last step but where it is that step
  at_most : Q < hid f * 2
  at_most = lt_of_mul-lt-mul_right (2 ^ k) (lt_of_le_of_lt from (omega (arith, pow_pos k)))

  fits-overflow : hid f * 2 * 2 ^ k ≤ overflow f
  fits-overflow = le_trans (le_of_eq (ap (λ (z : ℕ). z * 2 ^ k) (twice_hid f) ∙ sym (pow-add 2 (prec f) k))) (pow_mono room)

  below-overflow : (n : ℕ) → n < hid f * 2 → n * 2 ^ k < overflow f
  below-overflow n h = lt_of_lt_of_le (mul-lt-mul_of_pos_right h (pow_pos k)) fits-overflow

  held_steps : (n : ℕ) → n < hid f * 2 → Held f (n * 2 ^ k)
  held_steps n h = held-times f n k (held_small f n (le_trans (le_of_lt h) (le_of_eq (twice_hid f))))

  kept : (n : ℕ) → n < hid f * 2 → rnd_u f (n * 2 ^ k) ≡ n * 2 ^ k
  kept n h = rnd-held f (n * 2 ^ k) (n * 2 ^ k) (2 ^ low f) (held_steps n h) (below-overflow n h) (pow_pos (low f)) refl

  abbrev r : ℕ
  r = rnd_u f t

  r-from : Q * 2 ^ k ≤ r
  r-from = le_trans (le_of_eq (sym (kept Q at_most))) (rnd_u-mono f (Q * 2 ^ k) t from)

  -- at most the next step, and the step itself where t is one
  r-below : (r ≤ suc Q * 2 ^ k) × (r < hid f * 2 * 2 ^ k)
  r-below =
      elim (eq-or-lt_of_le from) [
        | inl e ↦
            let w : r ≡ Q * 2 ^ k = ap (rnd_u f) (sym e) ∙ kept Q at_most in
            (le_trans (le_of_eq w) (le_trans from (le_of_lt next)), lt_of_le_of_lt (le_of_eq w) (mul-lt-mul_of_pos_right at_most (pow_pos k)))
        | inr l ↦
            let g : suc Q < hid f * 2 = lt_of_mul-lt-mul_right (2 ^ k) (omega (arith, suc-mul Q (2 ^ k))) in
            let w : r ≤ suc Q * 2 ^ k = le_trans (rnd_u-mono f t (suc Q * 2 ^ k) (le_of_lt next)) (le_of_eq (kept (suc Q) g)) in
            (w, lt_of_le_of_lt w (mul-lt-mul_of_pos_right g (pow_pos k)))
      ]

  held-rounded : Held f r
  unfolding rnd
  held-rounded = held-real f (round f false t (2 ^ low f)) (real-of-size f (round f false t (2 ^ low f)) (round_number f false t (2 ^ low f)) (lt_of_lt_of_le r-below.1 fits-overflow))

  whole : (n : ℕ) × (r ≡ n * 2 ^ k)
  whole =
      held-multiple f r k held-rounded
      (le_trans (le_of_eq (pow-add 2 (prec f) k ∙ ap (λ (z : ℕ). z * 2 ^ k) (sym (twice_hid f)) ∙ mul_right_comm (hid f) 2 (2 ^ k)))
      (mul-le-mul_right 2 (le_trans (mul-le-mul_right (2 ^ k) enough) r-from)))

  -- how many steps the rounded sum has
  abbrev n : ℕ
  n = whole.0

  n-from : Q ≤ n
  n-from = le_of_mul-le-mul_right (le_trans r-from (le_of_eq whole.1)) (pow_pos k)

  n-to : n ≤ suc Q
  n-to = le_of_mul-le-mul_right (le_trans (le_of_eq (sym whole.1)) r-below.0) (pow_pos k)

  n-below : n < hid f * 2
  n-below = lt_of_mul-lt-mul_right (2 ^ k) (lt_of_le_of_lt (le_of_eq (sym whole.1)) r-below.1)

  abbrev s : Float
  s = add f x c

  sum-key : key f s ≡ overflow f + n * 2 ^ k
  sum-key = add-key f x c p q ∙ center-up (overflow f) (rnd_u f) (key f x + key f c) t (omega arith) ∙ ap (λ (z : ℕ). overflow f + z) whole.1

  size_is : mag f s < overflow f
  size_is =
      let some : 0 < n * 2 ^ k = mul-pos (lt_of_lt_of_le (pow_pos (prec f - 1)) (le_trans enough n-from)) (pow_pos k) in
      lt_of_le_of_lt (le_of_eq (positive (overflow f) (sign s) (mag f s) (n * 2 ^ k) some sum-key).1) (below-overflow n n-below)

  pub sum-real : T (real f (add f x c))
  sum-real = real-of-size f s (add-number f x c p q) size_is

  -- ---- the difference with the constant is exact
  gap : apart n m * 2 ^ k ≡ apart (key f s) (key f c)
  gap =
      let a = sub-mul n m (2 ^ k) in
      let b = sub-mul m n (2 ^ k) in
      omega (arith, add-mul (n - m) (m - n) (2 ^ k), sum-key)

  gap-small : apart n m < hid f * 2
  gap-small = omega (arith, n-below, enough, n-from, pow_pos (prec f - 1))

  sum-less-constant : key f (sub f (add f x c) c) + m * 2 ^ k ≡ overflow f + n * 2 ^ k
  sum-less-constant =
      omega (
        arith,
        sum-key,
        sub-exact f s c sum-real q (subst (Held f) gap (held_steps (apart n m) gap-small)) (lt_of_le_of_lt (le_of_eq (sym gap)) (below-overflow (apart n m) gap-small)),
      )

  -- so it is above x just where the sum was rounded up
  counted : n ≡ Q + cond (lt x (sub f (add f x c) c)) 1 0
  counted = go (lt x d) (lt→key f x d X D) (λ (l : key f x < key f d). key→lt f x d X D l)
    where
      d : Float
      d = sub f s c

      X : T (number f x)
      X = real-number f x p

      D : T (number f d)
      D = sub_number f s c sum-real q

      go : (b : Bool) → (T b → key f x < key f d) → (key f x < key f d → T b) → n ≡ Q + cond b 1 0
      go true h g =
          let up : t < n * 2 ^ k = omega (arith, h tt, sum-less-constant) in
          let l : Q < n = lt_of_mul-lt-mul_right (2 ^ k) (lt_of_le_of_lt from up) in
          omega (arith, n-to)
      go false h g =
          let no : ¬ (key f x < key f d) = λ (l : key f x < key f d). g l in
          let down : n * 2 ^ k ≤ t = omega (arith, sum-less-constant) in
          let l : n < suc Q = lt_of_mul-lt-mul_right (2 ^ k) (lt_of_le_of_lt down next) in
          omega (arith, n-from)

  -- **the floor of t in steps, from the pattern of the rounded sum**
  pub floor-by-sum : to_bits f (add f x c) % hid f ≡ t / 2 ^ k - hid f + cond (lt x (sub f (add f x c) c)) 1 0
  floor-by-sum =
      steps-digits f k n (le_trans enough n-from) n-below room s (add-number f x c p q) sum-key
      ∙ omega (arith, counted, enough)

  -- where t is a whole number of steps, nothing is rounded
  pub exact-by-sum : t ≡ t / 2 ^ k * 2 ^ k → to_bits f (add f x c) % hid f ≡ t / 2 ^ k - hid f
  exact-by-sum e =
      steps-digits f k n (le_trans enough n-from) n-below room s (add-number f x c p q) sum-key
      ∙ ap (λ (z : ℕ). z - hid f) (eq_of_mul-eq-mul_right (2 ^ k) (pow_pos k) n Q (sym whole.1 ∙ ap (rnd_u f) e ∙ kept Q at_most))

-- ---- in its two uses
-- x from 0 up, with the least constant, of 2 ^ (prec - 1) steps: the digits are the floor of x
-- itself
module _ (f : Format) (x c : Float) (k t : ℕ) (p : T (real f x)) (q : T (real f c)) (C : key f c ≡ overflow f + hid f * 2 ^ k) (E : key f x ≡ overflow f + t)
    (hi : t + 2 ^ k ≤ hid f * 2 ^ k) (room : prec f + k ≤ low f + suc (emax f)) where
  pub nonneg-real : T (real f (add f x c))
  nonneg-real = sum-real f x c k (hid f) (t + hid f * 2 ^ k) p q C (omega arith) (omega arith) (omega arith) (omega (arith, mul_right_comm (hid f) 2 (2 ^ k))) room

  pub nonneg-floor : to_bits f (add f x c) % hid f ≡ t / 2 ^ k + cond (lt x (sub f (add f x c) c)) 1 0
  nonneg-floor =
      floor-by-sum f x c k (hid f) (t + hid f * 2 ^ k) p q C (omega arith) (omega arith) (omega arith) (omega (arith, mul_right_comm (hid f) 2 (2 ^ k))) room
      ∙ ap (λ (z : ℕ). z - hid f + cond (lt x (sub f (add f x c) c)) 1 0) (add-mul-div_right t (hid f) (pow_pos k))
      ∙ ap (λ (z : ℕ). z + cond (lt x (sub f (add f x c) c)) 1 0) back
    where
      back : t / 2 ^ k + hid f - hid f ≡ t / 2 ^ k
      back = omega arith

-- x of either sign, at most j steps in size, with a constant that is j steps from both ends
module _ (f : Format) (x c : Float) (k m j : ℕ) (p : T (real f x)) (q : T (real f c)) (C : key f c ≡ overflow f + m * 2 ^ k)
    (size : mag f x ≤ j * 2 ^ k) (lo : hid f + j ≤ m) (hi : m + j < hid f * 2) (room : prec f + k ≤ low f + suc (emax f)) where
  abbrev t : ℕ
  t = keyed (m * 2 ^ k) (sign x) (mag f x)

  reach : j * 2 ^ k ≤ m * 2 ^ k
  reach = mul-le-mul_right (2 ^ k) (omega arith)

  meets : (s : Bool) (a : ℕ) → a ≤ overflow f → a ≤ j * 2 ^ k → keyed (overflow f) s a + m * 2 ^ k ≡ overflow f + keyed (m * 2 ^ k) s a
  meets false a h l = omega arith
  meets true a h l = omega (arith, reach)

  low_end : hid f * 2 ^ k ≤ t
  low_end = le_trans (omega (arith, add-mul (hid f) j (2 ^ k), mul-le-mul_right (2 ^ k) lo)) (keyed-ge (m * 2 ^ k) (sign x) (mag f x))

  high_end : t + 2 ^ k ≤ hid f * 2 * 2 ^ k
  high_end =
      let a = mul-le-mul_right (2 ^ k) hi in
      let b = keyed-le (m * 2 ^ k) (sign x) (mag f x) in
      omega (arith, suc-mul (m + j) (2 ^ k), add-mul m j (2 ^ k))

  pub signed-real : T (real f (add f x c))
  signed-real = sum-real f x c k m t p q C (meets (sign x) (mag f x) (le_of_lt (mag-below f x p)) size) (omega arith) low_end high_end room

  pub signed-floor : to_bits f (add f x c) % hid f ≡ keyed (m * 2 ^ k) (sign x) (mag f x) / 2 ^ k - hid f + cond (lt x (sub f (add f x c) c)) 1 0
  signed-floor = floor-by-sum f x c k m t p q C (meets (sign x) (mag f x) (le_of_lt (mag-below f x p)) size) (omega arith) low_end high_end room

  -- x of q whole steps
  pub signed-exact : (q : ℕ) → mag f x ≡ q * 2 ^ k → to_bits f (add f x c) % hid f ≡ keyed m (sign x) q - hid f
  signed-exact n e =
      exact-by-sum f x c k m t p q C (meets (sign x) (mag f x) (le_of_lt (mag-below f x p)) size) (omega arith) low_end high_end room (whole ∙ ap (λ (z : ℕ). z * 2 ^ k) (sym over))
      ∙ ap (λ (z : ℕ). z - hid f) over
    where
      times : (s : Bool) → keyed (m * 2 ^ k) s (n * 2 ^ k) ≡ keyed m s n * 2 ^ k
      times false = sym (add-mul m n (2 ^ k))
      times true = sym (sub-mul m n (2 ^ k))

      whole : t ≡ keyed m (sign x) n * 2 ^ k
      whole = ap (keyed (m * 2 ^ k) (sign x)) e ∙ times (sign x)

      over : t / 2 ^ k ≡ keyed m (sign x) n
      over = ap (λ (z : ℕ). z / 2 ^ k) whole ∙ mul-div_cancel (keyed m (sign x) n) (pow_pos k)

-- ---- f32: whole steps of 1, for a v from 0 to 2 ^ 22, with 2 ^ 23 added
module _ (v : Float) (p : T (real binary32 v)) (lo : T (le plus_zero v)) (hi : T (le v (power 22))) where
  abbrev F : Format
  F = binary32

  big : T (real F (power 23))
  big = real-power F 23 (lit≤ tt)

  big-key : key F (power 23) ≡ overflow F + hid F * 2 ^ 149
  big-key = ap (λ (z : ℕ). overflow F + z) (mag-power F 23)

  bound : mag F v + 2 ^ 149 ≤ hid F * 2 ^ 149
  bound =
      below (overflow F) (mag F v) (2 ^ 22 * 2 ^ 149) (2 ^ 149) (hid F * 2 ^ 149) (key F v) (key F (power 22)) (size-nonneg F v p lo)
      (ap (λ (z : ℕ). overflow F + z) (mag-power F 22))
      (le→key F v (power 22) (real-number F v p) (real-number F (power 22) (real-power F 22 (lit≤ tt))) hi)
      (lit≤ tt)
    where
      below : (K a b u c x y : ℕ) → x ≡ K + a → y ≡ K + b → x ≤ y → b + u ≤ c → a + u ≤ c
      below K a b u c x y X Y h l = omega arith

  pub whole-real-32 : T (real binary32 (add binary32 v (power 23)))
  whole-real-32 = nonneg-real F v (power 23) 149 (mag F v) p big big-key (size-nonneg F v p lo) bound (lit≤ tt)

  pub whole-floor-32 : to_bits binary32 (add binary32 v (power 23)) % 2 ^ 23 ≡ mag binary32 v / 2 ^ 149 + cond (lt v (sub binary32 (add binary32 v (power 23)) (power 23))) 1 0
  whole-floor-32 = nonneg-floor F v (power 23) 149 (mag F v) p big big-key (size-nonneg F v p lo) bound (lit≤ tt)
