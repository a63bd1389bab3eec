-- No value of a format is as near to the real root of a positive value as what `square_root_of` gives,
-- and none is at a tie. For between the root's leading digits and the next number up there is no
-- value of the format; and a root midway would have one digit more than the format keeps, the last
-- of them odd, so its square would have more digits than any value. Assumes nothing.
use mathlib.Core.Path.{◌≡◌, refl, sym, ap, ◌∙◌, subst}
use mathlib.Core.Logic.{◌⊎◌, inl, inr}
use mathlib.Core.Bool.{Bool, true, false, true≢false}
use Prim.Native.Nat.{ℕ, zero, suc, ◌+◌, ◌-◌, ◌*◌, ◌%◌, ◌^◌, ◌≤◌, ◌<◌, compare, Ordering}
use native.Mathlib.Nat.{mul_assoc, mul-one, mul_comm, add-mul, suc-mul, le_refl, le_trans, le_of_eq, le_of_lt, lt_of_lt_of_le, lt_of_le_of_lt, lt_irrefl, mul-le-mul, mul-le-mul_left, mul-le-mul_right, mul-lt-mul_of_pos_right, le-div_iff_mul-le, eq_of_mul-eq-mul_right, pow-suc}
use native.Mathlib.Decide.{dec_le}
use native.Mathlib.Omega.{arith}
use lib.Dec.{T, ltb}
use lib.IntN.{pos, negsuc}
use lib.Pow.{pow_pos, pow-add, pow_mono, pow-lt}
use lib.Ieee.{Float, nan, inf, fin, Format, prec, emax, low, size, nearest, units, odd, lt, fits}
use lib.Ieee.Digits.{back, size-le, size_reaches}
use lib.Ieee.Exact.{units_val, HasValue}
use lib.Ieee.Fits.{two, reach, nearest-le, kept-lt, odd-fits, cond-fits, inf-fits}
use lib.Ieee.Scale.{overflow}
use Rattle.float_laws.specs.Units.{mag, sign, real, real-number, mag-exact, mag-below, down_le, digits-below, exponent-le, unique}
use Rattle.float_laws.specs.Round.{plus_zero, mag-of-value, mag-zero}
use Rattle.float_laws.specs.Mono.{above_zero}
use Rattle.float_laws.specs.Error.{Cmp, cmp}
use Rattle.square_root.specs.Root.{whole_root, nearest_root, square_root_of}
use Rattle.square_root.proofs.WholeRoot.{root-lt, square-of-next, square-of-twice, square-of-odd, four-is-square, whole-root-is}
use Rattle.square_root.proofs.RootRounding.{dropped, leading, kept, nearest-root-is, Between, square-scaled, leading-between}

-- ---- a value of a format has `prec` digits at some place
record OnGrid (f : Format) (Z : ℕ) : Type 0 where
  digits : ℕ
  place : ℕ
  few : digits < 2 ^ prec f
  is : Z ≡ digits * 2 ^ place

on-grid : (f : Format) (x : Float) → T (real f x) → OnGrid f (mag f x)
on-grid f nan h = absurd h
on-grid f (inf s) h = absurd h
on-grid f (fin s m (pos a)) h =
    record {
      digits = m;
      place = a + low f;
      few = digits-below f s m (pos a) h;
      is = sym (mul-one (mag f (fin s m (pos a)))) ∙ mag-exact f s m (pos a) h ∙ mul_assoc m (2 ^ a) (2 ^ low f) ∙ ap (λ (z : ℕ). m * z) (sym (pow-add 2 a (low f)));
    }
on-grid f (fin s m (negsuc a)) h =
    let l = low f - suc a in
    let e : 2 ^ low f ≡ 2 ^ l * 2 ^ suc a = ap (λ (z : ℕ). 2 ^ z) (sym (back (low f) (suc a) (exponent-le (suc a) (low f) (down_le f s m (negsuc a) h)))) ∙ pow-add 2 l (suc a) in
    record {
      digits = m;
      place = l;
      few = digits-below f s m (negsuc a) h;
      is =
          eq_of_mul-eq-mul_right (2 ^ suc a) (pow_pos (suc a)) (mag f (fin s m (negsuc a))) (m * 2 ^ l)
          (mag-exact f s m (negsuc a) h ∙ ap (λ (z : ℕ). z * 2 ^ low f) (mul-one m) ∙ ap (λ (z : ℕ). m * z) e ∙ sym (mul_assoc m (2 ^ l) (2 ^ suc a)));
    }

-- ---- the leading digits have `prec` places, or nothing was dropped
leading-full : (f : Format) (N : ℕ) → (dropped f N ≡ 0) ⊎ (2 ^ (prec f - 1) ≤ leading f N)
leading-full f N =
    let r = whole_root N in
    elim (dec_le (size r) (prec f)) [
      | yes l ↦ inl (omega arith)
      | no g ↦
          let k = size r - prec f in
          let p = two f in
          inr ((le-div_iff_mul-le (pow_pos k)).1 (le_trans (le_of_eq (sym (pow-add 2 (prec f - 1) k))) (size_reaches r (prec f - 1 + k) (omega arith))))
    ]

-- no value lies between them and the next number up
gap : (f : Format) (q k Z : ℕ) → (k ≡ 0) ⊎ (2 ^ (prec f - 1) ≤ q) → OnGrid f Z → (Z ≤ q * 2 ^ k) ⊎ (suc q * 2 ^ k ≤ Z)
gap f q k Z w g =
    elim (dec_le k g.place) [
      | yes l ↦
          let t = g.digits * 2 ^ (g.place - k) in
          let e : Z ≡ t * 2 ^ k =
          g.is ∙ ap (λ (z : ℕ). g.digits * 2 ^ z) (sym (back g.place k l)) ∙ ap (λ (z : ℕ). g.digits * z) (pow-add 2 (g.place - k) k) ∙ sym (mul_assoc g.digits (2 ^ (g.place - k)) (2 ^ k)) in
          elim (dec_le t q) [
            | yes a ↦ inl (le_trans (le_of_eq e) (mul-le-mul_right (2 ^ k) a))
            | no a ↦ inr (le_trans (mul-le-mul_right (2 ^ k) (next t q a)) (le_of_eq (sym e)))
          ]
      | no n ↦ inl (small w n)
    ]
  where
    next : (t q : ℕ) → (t ≤ q → ⊥) → suc q ≤ t
    next t q a = omega arith

    small : (k ≡ 0) ⊎ (2 ^ (prec f - 1) ≤ q) → (k ≤ g.place → ⊥) → Z ≤ q * 2 ^ k
    small (inl e) n = absurd (omega arith)
    small (inr p) n =
        let t = two f in
        let a : g.digits * 2 ^ g.place ≤ 2 ^ prec f * 2 ^ g.place = mul-le-mul (le_of_lt g.few) (le_refl (2 ^ g.place)) in
        let b : 2 ^ (prec f + g.place) ≤ 2 ^ (prec f - 1 + k) = pow_mono (omega arith) in
        le_trans (le_of_eq g.is) (le_trans a (le_trans (le_of_eq (sym (pow-add 2 (prec f) g.place))) (le_trans b (le_trans (le_of_eq (pow-add 2 (prec f - 1) k)) (mul-le-mul_right (2 ^ k) p)))))

-- ---- no root is at a tie
even-double : (m a : ℕ) → m * 2 ^ suc a % 2 ≡ 0
even-double m a = let e : m * 2 ^ suc a ≡ m * 2 ^ a * 2 = ap (λ (z : ℕ). m * z) (pow-suc 2 a) ∙ sym (mul_assoc m (2 ^ a) 2) in omega arith

odd_part : (m a O b : ℕ) → m * 2 ^ a ≡ O * 2 ^ b → O % 2 ≡ 1 → (a ≤ b) × (O ≤ m)
odd_part m a O b e odd =
    elim (dec_le a b) [
      | yes l ↦ (l, at l)
      | no g ↦ absurd (never (a - suc b) (omega arith))
    ]
  where
    at : a ≤ b → O ≤ m
    at l =
        let w : m ≡ O * 2 ^ (b - a) = eq_of_mul-eq-mul_right (2 ^ a) (pow_pos a) m (O * 2 ^ (b - a)) (e ∙ ap (λ (z : ℕ). O * 2 ^ z) (sym (back b a l)) ∙ ap (λ (z : ℕ). O * z) (pow-add 2 (b - a) a) ∙ sym (mul_assoc O (2 ^ (b - a)) (2 ^ a))) in
        le_trans (le_of_eq (sym (mul-one O))) (le_trans (mul-le-mul_left O (pow_pos (b - a))) (le_of_eq (sym w)))

    never : (d : ℕ) → a ≡ suc d + b → ⊥
    never d h =
        let w : m * 2 ^ suc d ≡ O = eq_of_mul-eq-mul_right (2 ^ b) (pow_pos b) (m * 2 ^ suc d) O (mul_assoc m (2 ^ suc d) (2 ^ b) ∙ ap (λ (z : ℕ). m * z) (sym (pow-add 2 (suc d) b) ∙ ap (λ (z : ℕ). 2 ^ z) (sym h)) ∙ e) in
        let v = even-double m d in
        let u : m * 2 ^ suc d % 2 ≡ O % 2 = ap (λ (z : ℕ). z % 2) w in
        omega arith

twice_half : (f : Format) → 2 ^ prec f ≡ 2 ^ (prec f - 1) * 2
twice_half f = ap (λ (z : ℕ). 2 ^ z) there ∙ pow-suc 2 (prec f - 1)
  where
    there : prec f ≡ suc (prec f - 1)
    there = omega (arith, two f)

pub no_tie : (f : Format) (x : Float) → T (real f x) → (q k : ℕ) → (k ≡ 0) ⊎ (2 ^ (prec f - 1) ≤ q) → 4 * (mag f x * 2 ^ low f) ≡ (2 * q + 1) * (2 * q + 1) * 4 ^ k → ⊥
no_tie f x h q k w e =
    let g = on-grid f x h in
    let m = g.digits in
    let a = g.place + low f + 2 in
    let O = (2 * q + 1) * (2 * q + 1) in
    let s = square-of-odd q in
    let left : 4 * (mag f x * 2 ^ low f) ≡ m * 2 ^ a =
    mul_comm 4 (mag f x * 2 ^ low f) ∙ ap (λ (z : ℕ). z * 2 ^ low f * 4) g.is ∙ ap (λ (z : ℕ). z * 4) (mul_assoc m (2 ^ g.place) (2 ^ low f) ∙ ap (λ (z : ℕ). m * z) (sym (pow-add 2 g.place (low f)))) ∙ mul_assoc m (2 ^ (g.place + low f)) 4
    ∙ ap (λ (z : ℕ). m * z) (sym (pow-add 2 (g.place + low f) 2)) in
    let p = odd_part m a O (k + k) (sym left ∙ e ∙ ap (λ (z : ℕ). O * z) (four-is-square k ∙ sym (pow-add 2 k k))) (omega arith) in
    go w m (g.place + low f) O p.0 p.1 g.few (twice_half f) s
  where
    go : (k ≡ 0) ⊎ (2 ^ (prec f - 1) ≤ q) → (m a O : ℕ) → a + 2 ≤ k + k → O ≤ m → m < 2 ^ prec f → 2 ^ prec f ≡ 2 ^ (prec f - 1) * 2 → O ≡ 4 * (q * q) + 4 * q + 1 → ⊥
    go (inl z) m a O A M F t s = omega arith
    go (inr l) m a O A M F t s = omega arith

-- ---- the nearer of two
-- No value is as near to the root of N as Y: for any other value Z the root lies on Y's side of the
-- middle between the two, (Y + Z) / 2.
pub record Nearer (N Y Z : ℕ) : Type 0 where
  pub below-middle : Y < Z → 4 * N < (Y + Z) * (Y + Z)
  pub above-middle : Z < Y → (Y + Z) * (Y + Z) < 4 * N

square-lt : (a b : ℕ) → a < b → a * a < b * b
square-lt a b h = let s = square-of-next a in lt_of_lt_of_le (omega arith) (mul-le-mul h h)

module _ (N q k Z : ℕ) (b : Between N (4 ^ k) q) (away : (Z ≤ q * 2 ^ k) ⊎ (suc q * 2 ^ k ≤ Z)) where
  abbrev lower : ℕ
  lower = q * 2 ^ k

  abbrev upper : ℕ
  upper = suc q * 2 ^ k

  lower-square : lower * lower ≤ N
  lower-square = le_trans (le_of_eq (square-scaled q k)) b.under

  upper-square : N < upper * upper
  upper-square = lt_of_lt_of_le b.over (le_of_eq (sym (square-scaled (suc q) k)))

  middle : lower + upper ≡ (2 * q + 1) * 2 ^ k
  middle =
      let a : (2 * q + 1) * 2 ^ k ≡ 2 * q * 2 ^ k + 1 * 2 ^ k = add-mul (2 * q) 1 (2 ^ k) in
      let c : 2 * q * 2 ^ k ≡ 2 * (q * 2 ^ k) = mul_assoc 2 q (2 ^ k) in
      let d : suc q * 2 ^ k ≡ q * 2 ^ k + 2 ^ k = suc-mul q (2 ^ k) in
      omega arith

  middle-square : (lower + upper) * (lower + upper) ≡ (2 * q + 1) * (2 * q + 1) * 4 ^ k
  middle-square = ap (λ (z : ℕ). z * z) middle ∙ square-scaled (2 * q + 1) k

  at-least-upper : lower < Z → upper ≤ Z
  at-least-upper h = elim away [ inl l ↦ absurd (omega arith) | inr l ↦ l ]

  at-most-lower : Z < upper → Z ≤ lower
  at-most-lower h = elim away [ inl l ↦ l | inr l ↦ absurd (omega arith) ]

  lower-is-nearer : 4 * N < (2 * q + 1) * (2 * q + 1) * 4 ^ k → Nearer N lower Z
  lower-is-nearer h =
      record {
        below-middle = λ l. let u : lower + upper ≤ lower + Z = omega (arith, at-least-upper l) in lt_of_lt_of_le h (le_trans (le_of_eq (sym middle-square)) (mul-le-mul u u));
        above-middle = λ l. lt_of_lt_of_le (square-lt (lower + Z) (2 * lower) (omega arith)) (omega (arith, square-of-twice lower, lower-square));
      }

  upper-is-nearer : (2 * q + 1) * (2 * q + 1) * 4 ^ k < 4 * N → Nearer N upper Z
  upper-is-nearer h =
      record {
        below-middle = λ l. lt_of_le_of_lt (omega (arith, square-of-twice upper, upper-square)) (square-lt (2 * upper) (upper + Z) (omega arith));
        above-middle = λ l. let u : upper + Z ≤ lower + upper = omega (arith, at-most-lower l) in lt_of_le_of_lt (mul-le-mul u u) (lt_of_le_of_lt (le_of_eq middle-square) h);
      }

  nearer : (c : Ordering) → Cmp c (4 * N) ((2 * q + 1) * (2 * q + 1) * 4 ^ k) → (4 * N ≡ (2 * q + 1) * (2 * q + 1) * 4 ^ k → ⊥) → Nearer N (nearest q c * 2 ^ k) Z
  nearer Ordering.lt c n = lower-is-nearer c
  nearer Ordering.eq c n = absurd (n c)
  nearer Ordering.gt c n = upper-is-nearer c

-- ---- what `units` gives below the overflow
units-fits : (f : Format) (q k : ℕ) → q ≤ 2 ^ prec f → q * 2 ^ k < overflow f → T (fits f (units f false q k))
unfolding units
units-fits f q k h l = cond-fits f (ltb (q * 2 ^ k) (overflow f)) (odd (suc (prec f)) false q k (low f)) (inf false) (odd-fits f (suc (prec f)) false q k (lt_of_le_of_lt h (pow-lt (le_refl (suc (prec f))))) h l) (inf-fits f false)

real-of-value : (f : Format) (x : Float) (s : Bool) (a c : ℕ) → T (fits f x) → HasValue x s a c → T (real f x)
real-of-value f nan s a c h v = v
real-of-value f (inf t) s a c h v = v
real-of-value f (fin t m e) s a c h v = h

sign-of-value : (x : Float) (s : Bool) (a c : ℕ) → HasValue x s a c → sign x ≡ s
sign-of-value nan s a c v = absurd v
sign-of-value (inf t) s a c v = absurd v
sign-of-value (fin t m e) s a c v = v.0

-- ---- the size of what `nearest_root` gives, for an N that comes of a finite value
module _ (f : Format) (N : ℕ) (small : N < overflow f * 2 ^ low f) where
  whole-small : whole_root N < 2 ^ (low f + emax f)
  whole-small =
      root-lt (whole_root N) (2 ^ (low f + emax f))
      (lt_of_le_of_lt (whole-root-is N).under
      (lt_of_lt_of_le small (le_trans (le_of_eq (sym (pow-add 2 (low f + suc (emax f)) (low f)))) (le_trans (pow_mono (wide (low f) (emax f) (prec f) (two f) (reach f))) (le_of_eq (pow-add 2 (low f + emax f) (low f + emax f)))))))
    where
      wide : (l e p : ℕ) → 2 ≤ p → p ≤ suc e → l + suc e + l ≤ l + e + (l + e)
      wide l e p h k = omega arith

  kept_small : kept f N ≤ 2 ^ prec f
  kept_small = le_trans (nearest-le (leading f N) (compare (4 * N) ((2 * leading f N + 1) * (2 * leading f N + 1) * 4 ^ dropped f N))) (kept-lt (prec f) (whole_root N))

  in-range : kept f N * 2 ^ dropped f N < overflow f
  in-range =
      let a = size-le (whole_root N) (low f + emax f) whole-small in
      lt_of_le_of_lt (mul-le-mul_right (2 ^ dropped f N) kept_small)
      (lt_of_le_of_lt (le_of_eq (sym (pow-add 2 (prec f) (dropped f N)))) (pow-lt (few (prec f) (size (whole_root N)) (low f) (emax f) (two f) (reach f) a refl)))
    where
      few : (p z l e : ℕ) → 2 ≤ p → p ≤ suc e → z ≤ l + e → l ≡ e + p - 2 → p + (z - p) < l + suc e
      few p z l e a b c d = omega arith

  root-value : HasValue (nearest_root f N) false (kept f N * 2 ^ dropped f N) (2 ^ low f)
  root-value = subst (λ (y : Float). HasValue y false (kept f N * 2 ^ dropped f N) (2 ^ low f)) (sym (nearest-root-is f N)) (units_val f false (kept f N) (dropped f N) in-range)

  root-fits : T (fits f (nearest_root f N))
  root-fits = subst (λ (y : Float). T (fits f y)) (sym (nearest-root-is f N)) (units-fits f (kept f N) (dropped f N) kept_small in-range)

  pub root-is-real : T (real f (nearest_root f N))
  root-is-real = real-of-value f (nearest_root f N) false (kept f N * 2 ^ dropped f N) (2 ^ low f) root-fits root-value

  pub root-sign : sign (nearest_root f N) ≡ false
  root-sign = sign-of-value (nearest_root f N) false (kept f N * 2 ^ dropped f N) (2 ^ low f) root-value

  pub root-mag : mag f (nearest_root f N) ≡ kept f N * 2 ^ dropped f N
  root-mag = eq_of_mul-eq-mul_right (2 ^ low f) (pow_pos (low f)) (mag f (nearest_root f N)) (kept f N * 2 ^ dropped f N) (mag-of-value f (nearest_root f N) false (kept f N * 2 ^ dropped f N) (2 ^ low f) root-fits root-value)

-- ---- the square root of a positive value
module _ (f : Format) (x : Float) (h : T (real f x)) (positive : T (lt plus_zero x)) where
  pub root-at : square_root_of f x ≡ nearest_root f (mag f x * 2 ^ low f)
  unfolding square_root_of
  root-at = let a = above_zero f x (real-number f x h) positive in go x h a.0 a.1
    where
      go : (x : Float) → T (real f x) → sign x ≡ false → 0 < mag f x → square_root_of f x ≡ nearest_root f (mag f x * 2 ^ low f)
      go nan h s p = absurd h
      go (inf t) h s p = absurd h
      go (fin t zero e) h s p = absurd (lt_irrefl 0 (subst (λ (z : ℕ). 0 < z) (mag-zero f t e) p))
      go (fin true (suc m) e) h s p = absurd (true≢false s)
      go (fin false (suc m) e) h s p = refl

  pub square-small : mag f x * 2 ^ low f < overflow f * 2 ^ low f
  square-small = mul-lt-mul_of_pos_right (mag-below f x h) (pow_pos (low f))

  -- No value of f is as near to the root of x as `square_root_of f x`.
  pub square-root-is-nearest : (z : Float) → T (real f z) → Nearer (mag f x * 2 ^ low f) (mag f (square_root_of f x)) (mag f z)
  square-root-is-nearest z g =
      let N = mag f x * 2 ^ low f in
      let q = leading f N in
      let k = dropped f N in
      let c = (2 * q + 1) * (2 * q + 1) * 4 ^ k in
      subst (λ (Y : ℕ). Nearer N Y (mag f z)) (sym (ap (mag f) root-at ∙ root-mag f N square-small))
      (nearer N q k (mag f z) (leading-between f N) (gap f q k (mag f z) (leading-full f N) (on-grid f z g)) (compare (4 * N) c) (cmp (4 * N) c) (no_tie f x h q k (leading-full f N)))

  -- Nothing else is so near: a value that is as near as any to the root of x is `square_root_of f x`.
  pub nearest-is-square-root : (y : Float) → T (real f y) → sign y ≡ false → Nearer (mag f x * 2 ^ low f) (mag f y) (mag f (square_root_of f x)) → y ≡ square_root_of f x
  nearest-is-square-root y g s n =
      let r = square_root_of f x in
      let k : T (real f r) = subst (λ (z : Float). T (real f z)) (sym root-at) (root-is-real f (mag f x * 2 ^ low f) square-small) in
      let t : sign r ≡ false = ap sign root-at ∙ root-sign f (mag f x * 2 ^ low f) square-small in
      unique f y r (real-number f y g) (real-number f r k) (s ∙ sym t) (same_size (mag f y) (mag f r) n (square-root-is-nearest y g))
    where
      same_size : (Y R : ℕ) → Nearer (mag f x * 2 ^ low f) Y R → Nearer (mag f x * 2 ^ low f) R Y → Y ≡ R
      same_size Y R a b =
          let e : R + Y ≡ Y + R = omega arith in
          let w : (R + Y) * (R + Y) ≡ (Y + R) * (Y + R) = ap (λ (z : ℕ). z * z) e in
          elim (dec_le Y R) [
            | yes l ↦
                elim (dec_le R Y) [
                  | yes m ↦ omega arith
                  | no m ↦ absurd (omega (arith, a.below-middle (omega arith), b.above-middle (omega arith)))
                ]
            | no l ↦ absurd (omega (arith, a.above-middle (omega arith), b.below-middle (omega arith)))
          ]

  -- So a root that is a value of f is given exactly.
  pub root-of-square : (y : Float) → T (real f y) → sign y ≡ false → mag f x * 2 ^ low f ≡ mag f y * mag f y → square_root_of f x ≡ y
  root-of-square y g s e = sym (nearest-is-square-root y g s (subst (λ (N : ℕ). Nearer N (mag f y) (mag f (square_root_of f x))) (sym e) (root-itself (mag f y) (mag f (square_root_of f x)))))
    where
      root-itself : (Y Z : ℕ) → Nearer (Y * Y) Y Z
      root-itself Y Z =
          let t = square-of-twice Y in
          record {
            below-middle = λ l. lt_of_le_of_lt (le_of_eq (sym t)) (square-lt (2 * Y) (Y + Z) (omega arith));
            above-middle = λ l. lt_of_lt_of_le (square-lt (Y + Z) (2 * Y) (omega arith)) (le_of_eq t);
          }
