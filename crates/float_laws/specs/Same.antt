-- Two floats that differ at most in the sign of a zero. What equals as f32 is such a pair, and each
-- operation gives such a pair of two: so a run of operations on equal numbers ends with equal
-- numbers, also where infinities and NaN are met, and a function that gives both zeros one result
-- gives one result for both (`through`). Assumes nothing.
use Rattle.std.specs.Prelude.{◌≡◌, Bool, not, ◌&&◌, ◌⊎◌, T, pos, Float}
use Rattle.std.proofs.Math.Path.{refl, ap}
use Rattle.std.proofs.Common.{sym, ◌∙◌, subst, subst₂, zero-mul, mul-pos, add-zero, zero-add, eq-zero-or-pos, arith, inl, inr, lit<}
use Rattle.std.proofs.Math.Bool.{true, false}
use Prim.Native.Nat.{ℕ, zero, suc, ◌*◌, ◌≤◌, ◌<◌}
use Rattle.std.proofs.Math.Nat.{sub-zero}
use Rattle.std.proofs.Math.Dec.{eqb-suc-zero}
use Rattle.std.specs.Float.Ieee.{nan, up, down, unlike, round, sum, neg, add, sub, mul, div, eq}
use Rattle.std.specs.Float.{inf, fin, Format}
use Rattle.std.specs.Float.Ieee.Fits.{up_pos, down_pos}
use Rattle.std.specs.Float.Ieee.Scale.{overflow}
use borrow.Author.Tests.{lt-ltb, le-ltb}
use Rattle.float_laws.specs.Units.{mag, sign, number, real-number, keyed, mag-le, eq→key, unique}
use Rattle.float_laws.specs.Round.{rnd-zero, mag-zero, real-zero, mag-round, sign-round, round_number}
use Rattle.float_laws.specs.Ops.{mul-comm-f}

-- the zero of a sign
abbrev pub nought : Bool → Float
nought s = fin s 0 (pos 0)

pub data Same : Float → Float → Type 0 where
  same : {x : Float} → Same x x
  noughts : (s t : Bool) → Same (nought s) (nought t)

pub same_of : {x y : Float} → x ≡ y → Same x y
same_of {x} e = subst (Same x) e same

pub same-trans : {x y z : Float} → Same x y → Same y z → Same x z
same-trans same b = b
same-trans (noughts s t) same = noughts s t
same-trans (noughts s t) (noughts _ u) = noughts s u

-- a function that gives both zeros one result, and one that gives each zero a zero
pub through : {A : Type 0} (g : Float → A) → g (nought false) ≡ g (nought true) → {x y : Float} → Same x y → g x ≡ g y
through g h same = refl
through g h (noughts false false) = refl
through g h (noughts false true) = h
through g h (noughts true false) = sym h
through g h (noughts true true) = refl

pub carried : (g : Float → Float) (a b : Bool) → g (nought false) ≡ nought a → g (nought true) ≡ nought b → {x y : Float} → Same x y → Same (g x) (g y)
carried g a b h k same = same
carried g a b h k (noughts false false) = same
carried g a b h k (noughts false true) = subst₂ Same (sym h) (sym k) (noughts a b)
carried g a b h k (noughts true false) = subst₂ Same (sym k) (sym h) (noughts b a)
carried g a b h k (noughts true true) = same

module _ (f : Format) where
  nought-number : (s : Bool) → T (number f (nought s))
  nought-number s = real-number f (nought s) (real-zero f s)

  is-nought : (x : Float) → T (number f x) → mag f x ≡ 0 → x ≡ nought (sign x)
  is-nought x p h = unique f x (nought (sign x)) p (nought-number (sign x)) refl (h ∙ sym (mag-zero f (sign x) (pos 0)))

  pub round-zero : (s : Bool) (c : ℕ) → 0 < c → round f s 0 c ≡ nought s
  round-zero s c h =
      unique f (round f s 0 c) (nought s) (round_number f s 0 c) (nought-number s) (sign-round f s 0 c)
      (mag-round f s 0 c ∙ rnd-zero f c h ∙ sym (mag-zero f s (pos 0)))

  keys-alike : (K m n : ℕ) (s t : Bool) → m ≤ K → n ≤ K → keyed K s m ≡ keyed K t n → (m ≡ n) × ((s ≡ t) ⊎ (m ≡ 0))
  keys-alike K m n false false a b e = (omega arith, inl refl)
  keys-alike K m n false true a b e = (omega arith, inr (omega arith))
  keys-alike K m n true false a b e = (omega arith, inr (omega arith))
  keys-alike K m n true true a b e = (omega arith, inl refl)

  -- what equals
  pub eq-same : (x y : Float) → T (number f x) → T (number f y) → T (eq x y) → Same x y
  eq-same x y p q h =
      let k = keys-alike (overflow f) (mag f x) (mag f y) (sign x) (sign y) (mag-le f x p) (mag-le f y q) (eq→key f x y p q h) in
      elim k.1 [
        | inl s ↦ same_of (unique f x y p q s k.0)
        | inr z ↦ subst₂ Same (sym (is-nought x p z)) (sym (is-nought y q (sym k.0 ∙ z))) (noughts (sign x) (sign y))
      ]

  rounded : (s t : Bool) (a b c : ℕ) → a ≡ 0 → b ≡ 0 → 0 < c → Same (round f s a c) (round f t b c)
  rounded s t a b c g h C = subst₂ Same (sym (ap (λ (z : ℕ). round f s z c) g ∙ round-zero s c C)) (sym (ap (λ (z : ℕ). round f t z c) h ∙ round-zero t c C)) (noughts s t)

  -- ---- products
  mul-nought : (s t : Bool) (y : Float) → Same (mul f (nought s) y) (mul f (nought t) y)
  unfolding mul
  mul-nought s t nan = same
  mul-nought s t (inf u) = same
  mul-nought s t (fin u n d) = rounded (unlike s u) (unlike t u) (0 * (n * up d)) (0 * (n * up d)) (1 * down d) (zero-mul (n * up d)) (zero-mul (n * up d)) (mul-pos (lit< tt) (down_pos d))

  mul-first : {x x' : Float} (y : Float) → Same x x' → Same (mul f x y) (mul f x' y)
  mul-first y same = same
  mul-first y (noughts s t) = mul-nought s t y

  mul-second : (x : Float) {y y' : Float} → Same y y' → Same (mul f x y) (mul f x y')
  mul-second x {y} {y'} a = subst₂ Same (mul-comm-f f y x) (mul-comm-f f y' x) (mul-first x a)

  pub same-mul : {x x' y y' : Float} → Same x x' → Same y y' → Same (mul f x y) (mul f x' y')
  same-mul {x} {x'} {y} {y'} a b = same-trans (mul-first y a) (mul-second x' b)

  -- ---- quotients, by one divisor
  div-nought : (s t : Bool) (y : Float) → Same (div f (nought s) y) (div f (nought t) y)
  unfolding div
  div-nought s t nan = same
  div-nought s t (inf u) = noughts (unlike s u) (unlike t u)
  div-nought s t (fin u zero d) = same
  div-nought s t (fin u (suc n) d) =
      rw (eqb-suc-zero n)
      (rounded (unlike s u) (unlike t u) (0 * down d) (0 * down d) (suc n * up d * 1) (zero-mul (down d)) (zero-mul (down d)) (mul-pos (mul-pos (omega arith) (up_pos d)) (lit< tt)))

  pub same_div : {x x' : Float} (y : Float) → Same x x' → Same (div f x y) (div f x' y)
  same_div y same = same
  same_div y (noughts s t) = div-nought s t y

  -- ---- sums: where one term is a zero the other is left
  sum_first : (s t : Bool) (b c : ℕ) → 0 < b → sum f s 0 t b c ≡ round f t b c
  unfolding sum
  sum_first false false b c h = ap (λ (z : ℕ). round f false z c) (zero-add b)
  sum_first true true b c h = ap (λ (z : ℕ). round f true z c) (zero-add b)
  sum_first false true b c h = rw (lt-ltb 0 b h, sub-zero b) refl
  sum_first true false b c h = rw (lt-ltb 0 b h, sub-zero b) refl

  sum-second : (s t : Bool) (a c : ℕ) → 0 < a → sum f s a t 0 c ≡ round f s a c
  unfolding sum
  sum-second false false a c h = ap (λ (z : ℕ). round f false z c) (add-zero a)
  sum-second true true a c h = ap (λ (z : ℕ). round f true z c) (add-zero a)
  sum-second false true a c h = rw (le-ltb a 0 (omega arith), sub-zero a) refl
  sum-second true false a c h = rw (le-ltb a 0 (omega arith), lt-ltb 0 a h, sub-zero a) refl

  sum-neither : (s t : Bool) (c : ℕ) → 0 < c → sum f s 0 t 0 c ≡ nought (s && t)
  unfolding sum
  sum-neither false false c h = round-zero false c h
  sum-neither true true c h = round-zero true c h
  sum-neither false true c h = round-zero false c h
  sum-neither true false c h = round-zero false c h

  sums_first : (s t u : Bool) (a b c : ℕ) → a ≡ 0 → 0 < c → Same (sum f s a u b c) (sum f t a u b c)
  sums_first s t u a b c z h =
      subst (λ (k : ℕ). Same (sum f s k u b c) (sum f t k u b c)) (sym z)
      (elim (eq-zero-or-pos b) [
        | inl e ↦ subst (λ (k : ℕ). Same (sum f s 0 u k c) (sum f t 0 u k c)) (sym e) (subst₂ Same (sym (sum-neither s u c h)) (sym (sum-neither t u c h)) (noughts (s && u) (t && u)))
        | inr p ↦ subst₂ Same (sym (sum_first s u b c p)) (sym (sum_first t u b c p)) same
      ])

  sums-second : (s t u : Bool) (a b c : ℕ) → b ≡ 0 → 0 < c → Same (sum f u a s b c) (sum f u a t b c)
  sums-second s t u a b c z h =
      subst (λ (k : ℕ). Same (sum f u a s k c) (sum f u a t k c)) (sym z)
      (elim (eq-zero-or-pos a) [
        | inl e ↦ subst (λ (k : ℕ). Same (sum f u k s 0 c) (sum f u k t 0 c)) (sym e) (subst₂ Same (sym (sum-neither u s c h)) (sym (sum-neither u t c h)) (noughts (u && s) (u && t)))
        | inr p ↦ subst₂ Same (sym (sum-second u s a c p)) (sym (sum-second u t a c p)) same
      ])

  add-first : {x x' : Float} (y : Float) → Same x x' → Same (add f x y) (add f x' y)
  unfolding add
  add-first y same = same
  add-first nan (noughts s t) = same
  add-first (inf u) (noughts s t) = same
  add-first (fin u n d) (noughts s t) = sums_first s t u (0 * down d) (n * up d * 1) (1 * down d) (zero-mul (down d)) (mul-pos (lit< tt) (down_pos d))

  add-second : (x : Float) {y y' : Float} → Same y y' → Same (add f x y) (add f x y')
  unfolding add
  add-second x same = same
  add-second nan (noughts s t) = same
  add-second (inf u) (noughts s t) = same
  add-second (fin u n d) (noughts s t) = sums-second s t u (n * up d * 1) (0 * down d) (down d * 1) (zero-mul (down d)) (mul-pos (down_pos d) (lit< tt))

  pub same_add : {x x' y y' : Float} → Same x x' → Same y y' → Same (add f x y) (add f x' y')
  same_add {x} {x'} {y} {y'} a b = same-trans (add-first y a) (add-second x' b)

  pub same-neg : {x x' : Float} → Same x x' → Same (neg x) (neg x')
  unfolding neg
  same-neg same = same
  same-neg (noughts s t) = noughts (not s) (not t)

  pub same-sub : {x x' y y' : Float} → Same x x' → Same y y' → Same (sub f x y) (sub f x' y')
  unfolding sub
  same-sub a b = same_add a (same-neg b)
