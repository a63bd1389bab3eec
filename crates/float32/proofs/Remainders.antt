-- The remainder by 1 in units of the format's smallest value: what the whole part leaves of the
-- size, with the sign. So it is 0 with the sign where nothing is left, as from 2 ^ (prec - 1) on.
-- Assumes nothing.
use Rattle.std.proofs.Common.{◌≡◌, ℕ, suc, ◌+◌, ◌*◌, ◌/◌, ◌%◌, ◌^◌, ◌<◌, ◌≤◌, Bool, true, false, cond, not, T, pos, sym, refl, ap, ◌∙◌, subst, inl, inr, le_of_eq, lt_of_lt_of_le, lt_irrefl, mul-le-mul_right, div-lt_iff_lt-mul, add-mul, eq-zero-or-pos, mul-zero, div-add-mod', mul-one, mul_right_comm, arith, pow_pos, pow-add}
use native.Mathlib.Nat.{mul-mod_left, zero-mod}
use lib.Pow.{pow-lt}
use lib.Ieee.{Float, nan, inf, fin, Format, prec, emax, low, up, down, rem, round, neg, unlike, add, sub, mul, lt, of_int}
use lib.Ieee.Bits.{is_true}
use lib.Ieee.Fits.{down_pos}
use lib.Ieee.Nearest.{div_same}
use lib.Ieee.Scale.{overflow, round_same}
use Rattle.float_laws.specs.Units.{real, number, real-number, mag, mag-exact, sign, key, keyed, overflow-pos, lt→key, key→lt, unique}
use Rattle.float_laws.specs.Round.{plus_zero, rnd, rnd-mono, rnd-held, rnd-zero, held-real, key-zero, mag-zero, real-zero, mag-neg, mag-round, sign-round, round-neg, round_number, key-round, squared-pos}
use Rattle.float_laws.specs.Ops.{add-sum, mul-round, unlike-clear}
use Rattle.float_laws.specs.Mono.{real-neg, key-neg, number-neg}
use Rattle.float_laws.specs.Bounds.{one}
use Rattle.float_laws.specs.Exact.{held_small, held-multiple, mag-whole, sign-whole, real-whole, sum-minus, sign-neg}
use Rattle.float32.proofs.WholePart.{half, doubled}

-- ---- the remainder, in units
mod_same : (a c b d : ℕ) → 0 < c → 0 < d → a * d ≡ b * c → a % c * d ≡ b % d * c
mod_same a c b d C D e =
    let q = b / d in
    let s : a / c ≡ q = div_same a c b d C D e in
    let x : q * c + a % c ≡ a = ap (λ (z : ℕ). z * c + a % c) (sym s) ∙ div-add-mod' a c in
    let y : q * d + b % d ≡ b = div-add-mod' b d in
    let X : q * c * d + a % c * d ≡ a * d = sym (add-mul (q * c) (a % c) d) ∙ ap (λ (z : ℕ). z * d) x in
    let Y : q * d * c + b % d * c ≡ b * c = sym (add-mul (q * d) (b % d) c) ∙ ap (λ (z : ℕ). z * c) y in
    let w : q * c * d ≡ q * d * c = mul_right_comm q c d in
    omega arith

rem-round : (f : Format) (v : Float) → T (real f v) → rem f v one ≡ round f (sign v) (mag f v % 2 ^ low f) (2 ^ low f)
unfolding rem
rem-round f nan p = absurd p
rem-round f (inf s) p = absurd p
rem-round f (fin s m e) p =
    let L = 2 ^ low f in
    let x = m * up e in
    let d = down e in
    let w : 1 * 1 * d ≡ d = omega arith in
    let g : x * 1 % (1 * 1 * d) ≡ x % d = ap (λ (z : ℕ). z % (1 * 1 * d)) (mul-one x) ∙ ap (λ (z : ℕ). x % z) w in
    round_same f s (x * 1 % (1 * 1 * d)) (d * 1) (mag f (fin s m e) % L) L (subst (λ (z : ℕ). 0 < z) (sym (mul-one d)) (down_pos e)) (pow_pos (low f))
    (ap (λ (z : ℕ). z * L) g ∙ mod_same x d (mag f (fin s m e)) L (down_pos e) (pow_pos (low f)) (sym (mag-exact f s m e p)) ∙ ap (λ (z : ℕ). mag f (fin s m e) % L * z) (sym (mul-one d)))

round-none : (f : Format) (s : Bool) (c : ℕ) → 0 < c → round f s 0 c ≡ fin s 0 (pos 0)
round-none f s c C =
    unique f (round f s 0 c) (fin s 0 (pos 0)) (round_number f s 0 c) (real-number f (fin s 0 (pos 0)) (real-zero f s)) (sign-round f s 0 c)
    (mag-round f s 0 c ∙ rnd-zero f c C ∙ sym (mag-zero f s (pos 0)))

none_below : (s : Bool) → lt (fin s 0 (pos 0)) plus_zero ≡ false
unfolding lt
none_below true = refl
none_below false = refl

abbrev pub euclid : Format → Float → Float
euclid f v = cond (lt (rem f v one) plus_zero) (add f (rem f v one) one) (rem f v one)

is_false : (b : Bool) → (T b → ⊥) → b ≡ false
is_false true h = absurd (h tt)
is_false false h = refl

module _ (f : Format) (v : Float) (p : T (real f v)) where
  abbrev L : ℕ
  L = 2 ^ low f

  abbrev rest : ℕ
  rest = mag f v % L

  -- ---- nothing is left
  pub nothing_left : rest ≡ 0 → mul f v plus_zero ≡ euclid f v
  nothing_left z =
      let r : rem f v one ≡ fin (sign v) 0 (pos 0) = rem-round f v p ∙ ap (λ (n : ℕ). round f (sign v) n L) z ∙ round-none f (sign v) L (pow_pos (low f)) in
      let product : mul f v plus_zero ≡ fin (sign v) 0 (pos 0) =
      mul-round f v plus_zero p (real-zero f false)
      ∙ ap (λ (n : ℕ). round f (unlike (sign v) false) n (L * L)) (ap (λ (n : ℕ). mag f v * n) (mag-zero f false (pos 0)) ∙ mul-zero (mag f v))
      ∙ round-none f (unlike (sign v) false) (L * L) (squared-pos f)
      ∙ ap (λ (t : Bool). fin t 0 (pos 0)) (unlike-clear (sign v) false refl) in
      rw (r, none_below (sign v)) product

  pub all_whole_lem : half f * L ≤ mag f v → rest ≡ 0
  all_whole_lem h =
      let (q, e) = held-multiple f (mag f v) (low f) (held-real f v p)
      (let d = doubled f in
      let e : 2 ^ (prec f + low f) ≡ 2 ^ prec f * L = pow-add 2 (prec f) (low f) in
      let g : 2 ^ prec f * L ≡ half f * L + half f * L = ap (λ (z : ℕ). z * L) (sym d) ∙ add-mul (half f) (half f) L in
      omega arith) in
      ap (λ (z : ℕ). z % L) e ∙ mul-mod_left q L

  -- ---- what is left
  abbrev pub part : Float
  part = round f false rest L

  part-key : key f part ≡ overflow f + rnd f rest L
  part-key = key-round f false rest L

  part-number : T (number f part)
  part-number = round_number f false rest L

  zero_number : T (number f plus_zero)
  zero_number = real-number f plus_zero (real-zero f false)

  pub no_part : (T (lt plus_zero part) → ⊥) → rest ≡ 0
  no_part h =
      elim (eq-zero-or-pos rest) [
        | inl z ↦ z
        | inr g ↦
            let unit : rnd f 1 L ≡ 1 = rnd-held f 1 1 L (held_small f 1 (pow_pos (prec f))) one_below (pow_pos (low f)) refl in
            let least = rnd-mono f 1 L rest L (pow_pos (low f)) (pow_pos (low f)) (mul-le-mul_right L g) in
            absurd (h (key→lt f plus_zero part zero_number part-number (omega (arith, key-zero f, part-key))))
      ]
    where
      one_below : 1 < overflow f
      one_below = pow-lt {i = 0} {j = low f + suc (emax f)} (omega arith)

  above : T (lt plus_zero part) → 0 < rnd f rest L
  above h = let k = lt→key f plus_zero part zero_number part-number h in omega (arith, key-zero f, part-key)

  -- below 0
  pub left_below : T (lt plus_zero part) → T (lt v plus_zero) → add f (neg part) one ≡ euclid f v
  left_below h l =
      let n = real-number f v p in
      let s : sign v ≡ true = negative (sign v) (mag f v) (lt→key f v plus_zero n zero_number l) in
      let r : rem f v one ≡ neg part = rem-round f v p ∙ ap (λ (t : Bool). round f t rest L) s ∙ round-neg f rest L in
      let b : T (lt (neg part) plus_zero) = key→lt f (neg part) plus_zero (number-neg f part part-number) zero_number (omega (arith, above h, key-neg f part part-number, part-key, key-zero f, overflow-pos f)) in
      rw (r, is_true (lt (neg part) plus_zero) b) refl
    where
      negative : (s : Bool) (m : ℕ) → keyed (overflow f) s m < key f plus_zero → s ≡ true
      negative true m g = refl
      negative false m g = absurd (omega (arith, key-zero f))

  -- not below 0
  pub left-above : T (lt plus_zero part) → (T (lt v plus_zero) → ⊥) → part ≡ euclid f v
  left-above h l =
      let n = real-number f v p in
      let s : sign v ≡ false = clear (sign v) (λ (g : key f v < key f plus_zero). l (key→lt f v plus_zero n zero_number g)) in
      let r : rem f v one ≡ part = rem-round f v p ∙ ap (λ (t : Bool). round f t rest L) s in
      let b : T (lt part plus_zero) → ⊥ = λ g. omega (arith, lt→key f part plus_zero part-number zero_number g, key-zero f, part-key) in
      rw (r, is_false (lt part plus_zero) b) refl
    where
      clear : (s : Bool) → (keyed (overflow f) s (mag f v) < key f plus_zero → ⊥) → s ≡ false
      clear false g = refl
      clear true g =
          let z : mag f v ≡ 0 = omega (arith, key-zero f, overflow-pos f) in
          absurd (lt_irrefl 0 (lt_of_lt_of_le (above h) (le_of_eq (ap (λ (n : ℕ). rnd f (n % L) L) z ∙ ap (λ (n : ℕ). rnd f n L) (zero-mod L) ∙ rnd-zero f L (pow_pos (low f))))))

  -- the size less its whole part
  pub size-less-whole : (a : Float) → T (real f a) → sign a ≡ false → mag f a ≡ mag f v → mag f v < half f * L → sub f a (of_int f (pos (mag f v / L))) ≡ part
  unfolding sub
  size-less-whole a q s e b =
      let n = mag f v / L in
      let w = of_int f (pos n) in
      let h : n < half f = (div-lt_iff_lt-mul (pow_pos (low f))).1 b in
      let g : n ≤ 2 ^ prec f = let d = doubled f in omega arith in
      let k : mag f (neg w) ≡ n * L = mag-neg f w ∙ mag-whole f n g in
      let d = div-add-mod' (mag f v) L in
      add-sum f a (neg w) q (real-neg f w (real-whole f n g))
      ∙ sum-minus f (sign a) (sign (neg w)) (mag f a) (mag f (neg w)) L s (sign-neg f w (real-whole f n g) ∙ ap not (sign-whole f n g)) (omega arith)
      ∙ ap (λ (z : ℕ). round f false z L) (omega arith)
