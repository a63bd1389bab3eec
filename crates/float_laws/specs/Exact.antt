-- Where an operation is exact: where its exact result is a value of the format. So for a difference
-- of two that are at most twice each other, for a product with and a quotient by a power of two,
-- and for whole numbers up to 2 ^ prec. Results are said in units: `key f (sub f x y) + key f y ≡
-- key f x + overflow f` is x - y without a rounding. Assumes nothing.
use Rattle.std.specs.Prelude.{◌≡◌, refl, Bool, ◌&&◌, ℕ, suc, ◌+◌, ◌-◌, ◌*◌, ◌^◌, ◌≤◌, ◌<◌, ℤ, pos, negsuc, T, ltb, Float}
use Rattle.std.proofs.Math.Path.{sym, ap}
use Rattle.std.proofs.Common.{◌∙◌, subst, inl, inr, true≢false, le_of_suc-le-suc, one-mul, mul-one, mul_comm, mul_assoc, mul_right_comm, mul-pos, add-mul, mul-le-mul_right, mul-le-mul_left, mul-lt-mul_of_pos_right, le_of_mul-le-mul_right, le_trans, le_of_eq, le_of_lt, lt_irrefl, lt_of_le_of_lt, lt_of_lt_of_le, not-le_of_lt, eq-or-lt_of_le, arith, pow_pos, pow-add, pow_mono, ltb→lt, lit≤}
use Rattle.std.proofs.Math.Bool.{true, false, not, cond}
use Rattle.std.specs.Bool.{beq}
use Rattle.std.proofs.Math.Nat.{eq_of_mul-eq-mul_right}
use Rattle.std.proofs.Math.Decide.{dec_le}
use Rattle.std.proofs.Math.Pow.{pow-lt}
use Rattle.std.specs.Float.{nan, inf, fin, Format, binary32, binary64}
use Rattle.std.specs.Float.Ieee.{prec, emax, low, up, down, le, round, neg, unlike, sum, add, sub, mul, div, of_int}
use Rattle.std.specs.Float.Ieee.Digits.{back}
use Rattle.std.specs.Float.Ieee.Fits.{two, down_pos, up_pos}
use Rattle.std.specs.Float.Ieee.Positive.{first_pos}
use Rattle.std.specs.Float.Ieee.Scale.{overflow, round_same}
use Rattle.float_laws.specs.Units.{mag, sign, real, key, mag-exact, mag-below, real-number, real-of-size, unique}
use Rattle.float_laws.specs.Round.{plus_zero, Held, rnd-held, held-real, mag-round, mag-neg, rnd-zero, sign-round, round_number, mag-zero, real-zero, squared-pos}
use Rattle.float_laws.specs.Signs.{sub-mul}
use Rattle.float_laws.specs.Ops.{mul-round, div-round, add-sum, sum-clear}
use Rattle.float_laws.specs.Mono.{center, center-up, center-down, rnd_u, rnd_u-zero, sub-key, key-high, real-neg, size-nonneg}
use Rattle.float_laws.specs.Power.{power, mag-power, real-power}

-- ---- which numbers of units the format holds
pub held_small : (f : Format) (n : ℕ) → n ≤ 2 ^ prec f → Held f n
held_small f n h =
    elim (eq-or-lt_of_le h) [
      | inl e ↦ record { digits = 1; zeros = prec f; is = e ∙ sym (one-mul (2 ^ prec f)); short = le_trans (lit≤ {m = 2} {n = 2 ^ 2} tt) (pow_mono (two f)) }
      | inr l ↦ record { digits = n; zeros = 0; is = sym (mul-one n); short = l }
    ]

pub held-times : (f : Format) (n k : ℕ) → Held f n → Held f (n * 2 ^ k)
held-times f n k h =
    record {
      digits = h.digits;
      zeros = h.zeros + k;
      is = ap (λ (z : ℕ). z * 2 ^ k) h.is ∙ mul_assoc h.digits (2 ^ h.zeros) (2 ^ k) ∙ ap (λ (z : ℕ). h.digits * z) (sym (pow-add 2 h.zeros k));
      short = h.short;
    }

-- d * 2 ^ z as a multiple of a lesser power
regroup : (d z k : ℕ) → k ≤ z → d * 2 ^ z ≡ d * 2 ^ (z - k) * 2 ^ k
regroup d z k h = ap (λ (j : ℕ). d * 2 ^ j) (sym (back z k h)) ∙ ap (λ (w : ℕ). d * w) (pow-add 2 (z - k) k) ∙ sym (mul_assoc d (2 ^ (z - k)) (2 ^ k))

pub held-over : (f : Format) (n k : ℕ) → Held f (n * 2 ^ k) → Held f n
held-over f n k h = go (dec_le k h.zeros)
  where
    go : Dec (k ≤ h.zeros) → Held f n
    go (yes l) =
        record {
          digits = h.digits;
          zeros = h.zeros - k;
          is = eq_of_mul-eq-mul_right (2 ^ k) (pow_pos k) n (h.digits * 2 ^ (h.zeros - k)) (h.is ∙ regroup h.digits h.zeros k l);
          short = h.short;
        }
    go (no l) =
        let z = h.zeros in
        let e : n * 2 ^ (k - z) ≡ h.digits = eq_of_mul-eq-mul_right (2 ^ z) (pow_pos z) (n * 2 ^ (k - z)) h.digits (sym (regroup n k z (omega arith)) ∙ h.is) in
        record { digits = n; zeros = 0; is = sym (mul-one n); short = lt_of_le_of_lt (le_trans (le_of_eq (sym (mul-one n))) (le_trans (mul-le-mul_left n (pow_pos (k - z))) (le_of_eq e))) h.short }

-- from half of 2 ^ (prec + k) on, the values of the format are multiples of 2 ^ k
pub held-multiple : (f : Format) (n k : ℕ) → Held f n → 2 ^ (prec f + k) ≤ n * 2 → (q : ℕ) × (n ≡ q * 2 ^ k)
held-multiple f n k h l = go (dec_le k h.zeros)
  where
    go : Dec (k ≤ h.zeros) → (q : ℕ) × (n ≡ q * 2 ^ k)
    go (yes g) = (h.digits * 2 ^ (h.zeros - k), h.is ∙ regroup h.digits h.zeros k g)
    go (no g) =
        let z = h.zeros in
        let a : n * 2 ≡ h.digits * 2 ^ (z + 1) = ap (λ (w : ℕ). w * 2) h.is ∙ mul_assoc h.digits (2 ^ z) 2 ∙ ap (λ (w : ℕ). h.digits * w) (sym (pow-add 2 z 1)) in
        let b : h.digits * 2 ^ (z + 1) < 2 ^ prec f * 2 ^ (z + 1) = mul-lt-mul_of_pos_right h.short (pow_pos (z + 1)) in
        let c : 2 ^ prec f * 2 ^ (z + 1) ≤ 2 ^ (prec f + k) = le_trans (le_of_eq (sym (pow-add 2 (prec f) (z + 1)))) (pow_mono (omega arith)) in
        absurd (not-le_of_lt (lt_of_le_of_lt (le_of_eq a) (lt_of_lt_of_le b c)) l)

-- ---- how far two whole numbers are apart
abbrev pub apart : ℕ → ℕ → ℕ
apart a b = a - b + (b - a)

-- two held numbers, one at most twice the other and with more zeros, or as many
apart-held : (f : Format) (a b : ℕ) (g : Held f a) (h : Held f b) → g.zeros ≤ h.zeros → b ≤ a * 2 → Held f (apart a b)
apart-held f a b g h l k =
    let z = g.zeros in
    let d = g.digits in
    let B = h.digits * 2 ^ (h.zeros - z) in
    let eb : b ≡ B * 2 ^ z = h.is ∙ regroup h.digits h.zeros z l in
    let less : B ≤ d * 2 = le_of_mul-le-mul_right (le_trans (le_of_eq (sym eb)) (le_trans k (le_of_eq (ap (λ (w : ℕ). w * 2) g.is ∙ mul_right_comm d (2 ^ z) 2)))) (pow_pos z) in
    let e1 : (d - B) * 2 ^ z ≡ a - b = sub-mul d B (2 ^ z) ∙ ap (λ (w : ℕ). w - B * 2 ^ z) (sym g.is) ∙ ap (λ (w : ℕ). a - w) (sym eb) in
    let e2 : (B - d) * 2 ^ z ≡ b - a = sub-mul B d (2 ^ z) ∙ ap (λ (w : ℕ). w - d * 2 ^ z) (sym eb) ∙ ap (λ (w : ℕ). b - w) (sym g.is) in
    let small : d - B + (B - d) ≤ d = omega arith in
    record { digits = d - B + (B - d); zeros = z; is = sym (add-mul (d - B) (B - d) (2 ^ z) ∙ ap (λ (w : ℕ). w + (B - d) * 2 ^ z) e1 ∙ ap (λ (w : ℕ). a - b + w) e2); short = lt_of_le_of_lt small g.short }

pub held-apart : (f : Format) (a b : ℕ) → Held f a → Held f b → a ≤ b * 2 → b ≤ a * 2 → Held f (apart a b)
held-apart f a b g h p q = go (dec_le g.zeros h.zeros)
  where
    swap : apart b a ≡ apart a b
    swap = omega arith

    go : Dec (g.zeros ≤ h.zeros) → Held f (apart a b)
    go (yes l) = apart-held f a b g h l q
    go (no l) = subst (Held f) swap (apart-held f b a h g (omega arith) p)

-- ---- sums and differences
center-exact : (K : ℕ) (g : ℕ → ℕ) (t : ℕ) → g 0 ≡ 0 → g (apart t (K + K)) ≡ apart t (K + K) → apart t (K + K) ≤ K → center K g t + K ≡ t
center-exact K g t z e h = go (dec_le (K + K) t)
  where
    go : Dec (K + K ≤ t) → center K g t + K ≡ t
    go (yes l) = let w : t ≡ K + K + apart t (K + K) = omega arith in omega (arith, center-up K g t (apart t (K + K)) w)
    go (no l) = let w : t + apart t (K + K) ≡ K + K = omega arith in omega (arith, center-down K g t (apart t (K + K)) z w)

module _ (f : Format) (x y : Float) (p : T (real f x)) (q : T (real f y)) where
  whole-units : (n : ℕ) → Held f n → n < overflow f → rnd_u f n ≡ n
  whole-units n h b = rnd-held f n n (2 ^ low f) h b (pow_pos (low f)) refl

  pub sub-exact : Held f (apart (key f x) (key f y)) → apart (key f x) (key f y) < overflow f → key f (sub f x y) + key f y ≡ key f x + overflow f
  sub-exact h b =
      let K = overflow f in
      let t = key f x + (K + K - key f y) in
      let top = key-high f y (real-number f y q) in
      let e : apart t (K + K) ≡ apart (key f x) (key f y) = omega arith in
      let c = center-exact K (rnd_u f) t (rnd_u-zero f) (ap (rnd_u f) e ∙ whole-units (apart (key f x) (key f y)) h b ∙ sym e) (le_of_lt (lt_of_le_of_lt (le_of_eq e) b)) in
      omega (arith, sub-key f x y p q)

  -- two values that are not negative, each at most twice the other
  pub sub-near : T (le plus_zero x) → T (le plus_zero y) → mag f x ≤ mag f y * 2 → mag f y ≤ mag f x * 2 → key f (sub f x y) + key f y ≡ key f x + overflow f
  sub-near X Y h k =
      let a = size-nonneg f x p X in
      let b = size-nonneg f y q Y in
      let e : apart (mag f x) (mag f y) ≡ apart (key f x) (key f y) = omega arith in
      sub-exact (subst (Held f) e (held-apart f (mag f x) (mag f y) (held-real f x p) (held-real f y q) h k)) (lt_of_le_of_lt (omega arith) (mag-below f x p))

-- ---- products and quotients
module _ (f : Format) (x y : Float) (n : ℕ) (p : T (real f x)) (q : T (real f y)) (h : Held f n) (b : n < overflow f) where
  pub mul-exact : mag f x * mag f y ≡ n * 2 ^ low f → mag f (mul f x y) ≡ n
  mul-exact e =
      let L = 2 ^ low f in
      ap (mag f) (mul-round f x y p q)
      ∙ mag-round f (unlike (sign x) (sign y)) (mag f x * mag f y) (L * L)
      ∙ rnd-held f n (mag f x * mag f y) (L * L) h b (squared-pos f) (ap (λ (z : ℕ). z * L) e ∙ mul_assoc n L L)

  pub div-exact : 0 < mag f y → mag f x * 2 ^ low f ≡ n * mag f y → mag f (div f x y) ≡ n
  div-exact N e = ap (mag f) (div-round f x y p q N) ∙ mag-round f (unlike (sign x) (sign y)) (mag f x) (mag f y) ∙ rnd-held f n (mag f x) (mag f y) h b N e

-- ---- by a power of two: n is the exact result, in units
held-scaled : (f : Format) (m n : ℕ) (e : ℤ) → Held f m → n * down e ≡ m * up e → Held f n
held-scaled f m n (pos k) h e = subst (Held f) (sym e ∙ mul-one n) (held-times f m k h)
held-scaled f m n (negsuc k) h e = held-over f n (suc k) (subst (Held f) (sym (e ∙ mul-one m)) h)

held-unscaled : (f : Format) (m n : ℕ) (e : ℤ) → Held f m → n * up e ≡ m * down e → Held f n
held-unscaled f m n (pos k) h e = held-over f n k (subst (Held f) (sym (e ∙ mul-one m)) h)
held-unscaled f m n (negsuc k) h e = subst (Held f) (sym e ∙ mul-one n) (held-times f m (suc k) h)

module _ (f : Format) (x : Float) (e : ℤ) (n : ℕ) (p : T (real f x)) (q : T (real f (fin false 1 e))) (b : n < overflow f) where
  size-two : mag f (fin false 1 e) * down e ≡ up e * 2 ^ low f
  size-two = mag-exact f false 1 e q ∙ ap (λ (z : ℕ). z * 2 ^ low f) (one-mul (up e))

  pub mul-two : n * down e ≡ mag f x * up e → mag f (mul f x (fin false 1 e)) ≡ n
  mul-two h =
      let L = 2 ^ low f in
      let m = mag f x in
      let u = mag f (fin false 1 e) in
      mul-exact f x (fin false 1 e) n p q (held-scaled f m n e (held-real f x p) h) b
      (eq_of_mul-eq-mul_right (down e) (down_pos e) (m * u) (n * L)
      (mul_assoc m u (down e) ∙ ap (λ (z : ℕ). m * z) size-two ∙ sym (mul_assoc m (up e) L) ∙ ap (λ (z : ℕ). z * L) (sym h) ∙ mul_right_comm n (down e) L))

  pub div-two : n * up e ≡ mag f x * down e → mag f (div f x (fin false 1 e)) ≡ n
  div-two h =
      let L = 2 ^ low f in
      let m = mag f x in
      let u = mag f (fin false 1 e) in
      let N : 0 < u = first_pos u (down e) (subst (λ (z : ℕ). 0 < z) (sym size-two) (mul-pos (up_pos e) (pow_pos (low f)))) in
      div-exact f x (fin false 1 e) n p q (held-unscaled f m n e (held-real f x p) h) b N
      (eq_of_mul-eq-mul_right (down e) (down_pos e) (m * L) (n * u)
      (mul_right_comm m L (down e) ∙ ap (λ (z : ℕ). z * L) (sym h) ∙ mul_assoc n (up e) L ∙ ap (λ (z : ℕ). n * z) (sym size-two) ∙ sym (mul_assoc n u (down e))))

-- ---- whole numbers, as `as f32` makes them: `of_int f (pos n)` is n itself for n up to 2 ^ prec
room : (f : Format) → prec f < suc (emax f)
room binary32 = lit≤ tt
room binary64 = lit≤ tt

module _ (f : Format) (n : ℕ) (h : n ≤ 2 ^ prec f) where
  in-range : n * 2 ^ low f < overflow f
  in-range =
      lt_of_le_of_lt (mul-le-mul_right (2 ^ low f) h)
      (lt_of_le_of_lt (le_of_eq (mul_comm (2 ^ prec f) (2 ^ low f) ∙ sym (pow-add 2 (low f) (prec f)))) (pow-lt (omega (arith, room f))))

  pub mag-whole : mag f (of_int f (pos n)) ≡ n * 2 ^ low f
  unfolding of_int
  mag-whole =
      mag-round f false n 1 ∙ rnd-held f (n * 2 ^ low f) n 1 (held-times f n (low f) (held_small f n h)) in-range (lit≤ tt) (sym (mul-one (n * 2 ^ low f)))

  pub sign-whole : sign (of_int f (pos n)) ≡ false
  unfolding of_int
  sign-whole = sign-round f false n 1

  pub real-whole : T (real f (of_int f (pos n)))
  unfolding of_int
  real-whole = real-of-size f (round f false n 1) (round_number f false n 1) (lt_of_le_of_lt (le_of_eq mag-whole) in-range)

pub sum-minus : (f : Format) (s t : Bool) (a b c : ℕ) → s ≡ false → t ≡ true → b ≤ a → sum f s a t b c ≡ round f false (a - b) c
unfolding sum
sum-minus f false true a b c e g h = go (ltb a b) (ltb→lt a b)
  where
    go : (x : Bool) → (T x → a < b) → cond x (round f true (b - a) c) (round f false (a - b) c) ≡ round f false (a - b) c
    go true l = absurd (not-le_of_lt (l tt) h)
    go false l = refl
sum-minus f false false a b c e g h = absurd (true≢false (sym g))
sum-minus f true t a b c e g h = absurd (true≢false e)

pub sign-neg : (f : Format) (x : Float) → T (real f x) → sign (neg x) ≡ not (sign x)
unfolding neg
sign-neg f nan p = absurd p
sign-neg f (inf s) p = absurd p
sign-neg f (fin s m e) p = refl

module _ (f : Format) (m n : ℕ) (g : m ≤ 2 ^ prec f) (h : n ≤ 2 ^ prec f) where
  -- a fraction of units is one of whole numbers
  in_ones : (a : ℕ) → round f false (a * 2 ^ low f) (2 ^ low f) ≡ round f false a 1
  in_ones a = round_same f false (a * 2 ^ low f) (2 ^ low f) a 1 (pow_pos (low f)) (lit≤ tt) (mul-one (a * 2 ^ low f))

  pub whole-add : add f (of_int f (pos m)) (of_int f (pos n)) ≡ of_int f (pos (m + n))
  unfolding of_int
  whole-add =
      let L = 2 ^ low f in
      let x = round f false m 1 in
      let y = round f false n 1 in
      add-sum f x y (real-whole f m g) (real-whole f n h)
      ∙ sum-clear f (sign x) (sign y) (mag f x) (mag f y) L (sign-whole f m g) (sign-whole f n h)
      ∙ ap (λ (z : ℕ). round f false z L) (rw (mag-whole f m g, mag-whole f n h) (sym (add-mul m n L)))
      ∙ in_ones (m + n)

  pub whole_sub : n ≤ m → sub f (of_int f (pos m)) (of_int f (pos n)) ≡ of_int f (pos (m - n))
  unfolding of_int sub
  whole_sub l =
      let L = 2 ^ low f in
      let x = round f false m 1 in
      let y = round f false n 1 in
      let k : mag f (neg y) ≡ n * L = mag-neg f y ∙ mag-whole f n h in
      add-sum f x (neg y) (real-whole f m g) (real-neg f y (real-whole f n h))
      ∙ sum-minus f (sign x) (sign (neg y)) (mag f x) (mag f (neg y)) L (sign-whole f m g) (sign-neg f y (real-whole f n h) ∙ ap not (sign-whole f n h))
      (le_trans (le_of_eq k) (le_trans (mul-le-mul_right L l) (le_of_eq (sym (mag-whole f m g)))))
      ∙ ap (λ (z : ℕ). round f false z L) (ap (λ (z : ℕ). z - mag f (neg y)) (mag-whole f m g) ∙ ap (λ (z : ℕ). m * L - z) k ∙ sym (sub-mul m n L))
      ∙ in_ones (m - n)

-- a power of two among them is the value that `mul-two` and `div-two` speak of
pub whole-power : (f : Format) (k : ℕ) → k ≤ prec f → of_int f (pos (2 ^ k)) ≡ power k
whole-power f k h =
    let r = real-power f k (le_of_suc-le-suc (lt_of_le_of_lt h (room f))) in
    unique f (of_int f (pos (2 ^ k))) (power k) (real-number f (of_int f (pos (2 ^ k))) (real-whole f (2 ^ k) (pow_mono h))) (real-number f (power k) r)
    (sign-whole f (2 ^ k) (pow_mono h))
    (mag-whole f (2 ^ k) (pow_mono h) ∙ sym (mag-power f k))

-- ---- a value less itself is +0
pub sub_self : (f : Format) (x : Float) → T (real f x) → sub f x x ≡ plus_zero
unfolding sub
sub_self f x p =
    add-sum f x (neg x) p (real-neg f x p)
    ∙ ap (λ (t : Bool). sum f (sign x) (mag f x) t (mag f (neg x)) (2 ^ low f)) (sign-neg f x p)
    ∙ ap (λ (n : ℕ). sum f (sign x) (mag f x) (not (sign x)) n (2 ^ low f)) (mag-neg f x)
    ∙ none (sign x) (mag f x)
  where
    rounded : round f false 0 (2 ^ low f) ≡ plus_zero
    rounded =
        unique f (round f false 0 (2 ^ low f)) plus_zero (round_number f false 0 (2 ^ low f)) (real-number f plus_zero (real-zero f false))
        (sign-round f false 0 (2 ^ low f))
        (mag-round f false 0 (2 ^ low f) ∙ rnd-zero f (2 ^ low f) (pow_pos (low f)) ∙ sym (mag-zero f false (pos 0)))

    none : (s : Bool) (m : ℕ) → sum f s m (not s) m (2 ^ low f) ≡ plus_zero
    none s m = unfold sum in go s (ltb m m) (ltb→lt m m) (omega arith)
      where
        go : (s b : Bool) → (T b → m < m) → m - m ≡ 0
            → cond (beq s (not s)) (round f s (m + m) (2 ^ low f)) (cond b (round f (not s) (m - m) (2 ^ low f)) (round f (s && b) (m - m) (2 ^ low f))) ≡ plus_zero
        go s true l e = absurd (lt_irrefl m (l tt))
        go true false l e = ap (λ (n : ℕ). round f false n (2 ^ low f)) e ∙ rounded
        go false false l e = ap (λ (n : ℕ). round f false n (2 ^ low f)) e ∙ rounded
