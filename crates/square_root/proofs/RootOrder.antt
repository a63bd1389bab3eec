-- What callers need of the square root: of a positive value it is positive and finite, it never
-- falls, and between 0 and 1 it stays there and is no less than its argument.
-- Each follows from nearness: were it otherwise, another value would be nearer. Assumes nothing.
use mathlib.Core.Path.{◌≡◌, refl, sym, ap, ◌∙◌, subst}
use mathlib.Core.Logic.{inl, inr}
use mathlib.Core.Bool.{Bool, true, false}
use Prim.Native.Nat.{ℕ, zero, suc, ◌+◌, ◌*◌, ◌^◌, ◌≤◌, ◌<◌}
use native.Mathlib.Nat.{le_of_eq, lt_of_lt_of_le, mul-le-mul, mul-le-mul_left, mul-le-mul_right, zero-lt-suc, lt_irrefl, mul-pos, zero-mul, eq-zero-or-pos}
use native.Mathlib.Decide.{dec_le}
use native.Mathlib.Omega.{arith}
use lib.Dec.{T}
use lib.IntN.{ℤ, pos}
use lib.Pow.{pow_pos}
use lib.Ieee.{Float, nan, inf, fin, Format, binary32, down, low, lt, le, fits}
use lib.Ieee.Fits.{up_pos}
use lib.Ieee.Scale.{overflow}
use Rattle.float_laws.specs.Units.{mag, sign, key, keyed, number, real, real-number, mag-inf, mag-exact, mag-below, overflow-pos, lt→key, key→lt, le→key, key→le}
use Rattle.float_laws.specs.Round.{plus_zero, key-zero, mag-zero, real-zero}
use Rattle.float_laws.specs.Order.{le-refl-f, lt→le-f, le-trans-f}
use Rattle.float_laws.specs.Inf.{le-top}
use Rattle.float_laws.specs.Mono.{above_zero}
use Rattle.float_laws.specs.Bounds.{one, real-one, mag-one}
use Rattle.square_root.specs.Root.{square_root_of}
use Rattle.square_root.proofs.WholeRoot.{square-of-twice}
use Rattle.square_root.proofs.RootNearest.{Nearer, root-at, square-small, root-is-real, root-sign, square-root-is-nearest}

zero_number : (f : Format) → T (number f plus_zero)
zero_number f = real-number f plus_zero (real-zero f false)

module _ (f : Format) (x : Float) (h : T (real f x)) (positive : T (lt plus_zero x)) where
  -- the root of a positive value is finite
  pub root-real : T (real f (square_root_of f x))
  root-real = subst (λ (y : Float). T (real f y)) (sym (root-at f x h positive)) (root-is-real f (mag f x * 2 ^ low f) (square-small f x h positive))

  pub root-plus : sign (square_root_of f x) ≡ false
  root-plus = ap sign (root-at f x h positive) ∙ root-sign f (mag f x * 2 ^ low f) (square-small f x h positive)

  abbrev unit : ℕ
  unit = 2 ^ low f

  nearest-to : (z : Float) → T (real f z) → Nearer (mag f x * unit) (mag f (square_root_of f x)) (mag f z)
  nearest-to z g = square-root-is-nearest f x h positive z g

  -- were it 0, each positive value up to the root would be nearer; the lesser of x and 1 is one
  nearer-than-zero : (z : Float) → T (real f z) → 0 < mag f z → mag f z * mag f z ≤ mag f x * unit → 0 < mag f (square_root_of f x)
  nearer-than-zero z g p l =
      let Y = mag f (square_root_of f x) in
      let Z = mag f z in
      elim (dec_le 1 Y) [
        | yes k ↦ k
        | no k ↦
            let e : Y + Z ≡ Z = omega arith in
            let s : (Y + Z) * (Y + Z) ≡ Z * Z = ap (λ (n : ℕ). n * n) e in
            absurd (omega (arith, (nearest-to z g).below-middle (omega arith)))
      ]

  root-size : 0 < mag f (square_root_of f x)
  root-size =
      let X = mag f x in
      elim (dec_le X unit) [
        | yes l ↦ nearer-than-zero x h (above_zero f x (real-number f x h) positive).1 (mul-le-mul_left X l)
        | no l ↦
            let u : unit ≤ X = omega arith in
            let s : mag f one * mag f one ≡ unit * unit = ap (λ (z : ℕ). z * z) (mag-one f) in
            nearer-than-zero one (real-one f) (omega (arith, mag-one f, pow_pos (low f))) (omega (arith, mul-le-mul_right unit u))
      ]

  root-key : key f (square_root_of f x) ≡ overflow f + mag f (square_root_of f x)
  root-key = ap (λ (s : Bool). keyed (overflow f) s (mag f (square_root_of f x))) root-plus

  -- the root of a positive value is positive
  pub root-positive : T (lt plus_zero (square_root_of f x))
  root-positive = key→lt f plus_zero (square_root_of f x) (zero_number f) (real-number f (square_root_of f x) root-real) (omega (arith, key-zero f, root-key, root-size))

  -- up to 1 it is no less than the value: were it less, the value itself would be nearer
  value-at-most-root : T (le x one) → T (le x (square_root_of f x))
  value-at-most-root l =
      let X = mag f x in
      let Y = mag f (square_root_of f x) in
      let p = above_zero f x (real-number f x h) positive in
      let kx : key f x ≡ overflow f + X = ap (λ (s : Bool). keyed (overflow f) s X) p.0 in
      let b : X ≤ unit = omega (arith, mag-one f, le→key f x one (real-number f x h) (real-number f one (real-one f)) l) in
      let c : X * X ≤ X * unit = mul-le-mul_left X b in
      elim (dec_le X Y) [
        | yes g ↦ key→le f x (square_root_of f x) (real-number f x h) (real-number f (square_root_of f x) root-real) (omega (arith, root-key))
        | no g ↦
            let u : Y + X ≤ 2 * X = omega arith in
            absurd (omega (arith, (nearest-to x h).below-middle (omega arith), mul-le-mul u u, square-of-twice X))
      ]

-- ---- it never falls
sizes-never-fall : (f : Format) (x y : Float) (h : T (real f x)) (g : T (real f y)) (p : T (lt plus_zero x)) (q : T (lt plus_zero y)) → mag f x ≤ mag f y → mag f (square_root_of f x) ≤ mag f (square_root_of f y)
sizes-never-fall f x y h g p q l =
    let U = 2 ^ low f in
    let Y = mag f (square_root_of f x) in
    let Z = mag f (square_root_of f y) in
    elim (dec_le Y Z) [
      | yes a ↦ a
      | no a ↦
          let s : Z + Y ≡ Y + Z = omega arith in
          let t : (Z + Y) * (Z + Y) ≡ (Y + Z) * (Y + Z) = ap (λ (z : ℕ). z * z) s in
          absurd (omega (arith, (square-root-is-nearest f x h p (square_root_of f y) (root-real f y g q)).above-middle (omega arith), (square-root-is-nearest f y g q (square_root_of f x) (root-real f x h p)).below-middle (omega arith), mul-le-mul_right U l))
    ]

-- a number from 0 up: a zero, a positive value, or the infinity
data FromZero (f : Format) (x : Float) : Type 0 where
  nothing : mag f x ≡ 0 → square_root_of f x ≡ x → FromZero f x
  some : T (real f x) → T (lt plus_zero x) → FromZero f x
  all : x ≡ inf false → FromZero f x

some_size : (f : Format) (s : Bool) (m : ℕ) (e : ℤ) → T (fits f (fin s (suc m) e)) → mag f (fin s (suc m) e) ≡ 0 → ⊥
some_size f s m e h z =
    lt_irrefl 0
    (lt_of_lt_of_le (mul-pos (mul-pos (zero-lt-suc m) (up_pos e)) (pow_pos (low f))) (le_of_eq (sym (mag-exact f s (suc m) e h) ∙ ap (λ (n : ℕ). n * down e) z ∙ zero-mul (down e))))

from_zero : (f : Format) (x : Float) → T (number f x) → T (le plus_zero x) → FromZero f x
unfolding square_root_of
from_zero f nan p h = absurd p
from_zero f (inf false) p h = all refl
from_zero f (inf true) p h = absurd (omega (arith, key-zero f, overflow-pos f, mag-inf f true, le→key f plus_zero (inf true) (zero_number f) tt h))
from_zero f (fin s zero e) p h = nothing (mag-zero f s e) refl
from_zero f (fin true (suc m) e) p h =
    let a = le→key f plus_zero (fin true (suc m) e) (zero_number f) p h in
    absurd (some_size f true m e p (omega (arith, key-zero f, overflow-pos f)))
from_zero f (fin false (suc m) e) p h =
    elim (eq-zero-or-pos (mag f (fin false (suc m) e))) [
      | inl z ↦ absurd (some_size f false m e p z)
      | inr l ↦ some p (key→lt f plus_zero (fin false (suc m) e) (zero_number f) p (omega (arith, key-zero f)))
    ]

keyed-none : (K : ℕ) (s : Bool) (m : ℕ) → m ≡ 0 → keyed K s m ≡ K
keyed-none K false m h = omega arith
keyed-none K true m h = omega arith

root-of-infinity : (f : Format) (x : Float) → x ≡ inf false → square_root_of f x ≡ inf false
unfolding square_root_of
root-of-infinity f x e = ap (square_root_of f) e

module _ (f : Format) (x : Float) (p : T (number f x)) (h : T (le plus_zero x)) where
  -- the root of a number from 0 up is such a number
  pub root-number : T (number f (square_root_of f x))
  root-number = go (from_zero f x p h)
    where
      go : FromZero f x → T (number f (square_root_of f x))
      go (nothing z e) = subst (λ (y : Float). T (number f y)) (sym e) p
      go (some g l) = real-number f (square_root_of f x) (root-real f x g l)
      go (all e) = subst (λ (y : Float). T (number f y)) (sym (root-of-infinity f x e)) tt

  pub root-from-zero : T (le plus_zero (square_root_of f x))
  root-from-zero = go (from_zero f x p h)
    where
      go : FromZero f x → T (le plus_zero (square_root_of f x))
      go (nothing z e) = subst (λ (y : Float). T (le plus_zero y)) (sym e) h
      go (some g l) = lt→le-f f plus_zero (square_root_of f x) (zero_number f) (real-number f (square_root_of f x) (root-real f x g l)) (root-positive f x g l)
      go (all e) = subst (λ (y : Float). T (le plus_zero y)) (e ∙ sym (root-of-infinity f x e)) h

  -- the root of a number from 0 to 1 is no less than the number
  pub root-at-least : T (le x one) → T (le x (square_root_of f x))
  root-at-least l = go (from_zero f x p h)
    where
      same : square_root_of f x ≡ x → T (le x (square_root_of f x))
      same e = subst (λ (y : Float). T (le x y)) (sym e) (le-refl-f f x p)

      go : FromZero f x → T (le x (square_root_of f x))
      go (nothing z e) = same e
      go (some g q) = value-at-most-root f x g q l
      go (all e) = same (root-of-infinity f x e ∙ sym e)

-- a number with no minus sign has a root with none: the root of +0 is +0
pub root-keeps-plus : (f : Format) (x : Float) → T (number f x) → sign x ≡ false → sign (square_root_of f x) ≡ false
root-keeps-plus f x p s = go (from_zero f x p (key→le f plus_zero x (zero_number f) p (omega (arith, key-zero f, ap (λ (t : Bool). keyed (overflow f) t (mag f x)) s))))
  where
    go : FromZero f x → sign (square_root_of f x) ≡ false
    go (nothing z e) = ap sign e ∙ s
    go (some g l) = root-plus f x g l
    go (all e) = ap sign (root-of-infinity f x e)

-- a greater number has no lesser root
pub square-root-never-falls : (f : Format) (x y : Float) → T (number f x) → T (number f y) → T (le plus_zero x) → T (le x y) → T (le (square_root_of f x) (square_root_of f y))
square-root-never-falls f x y p q h l = go (from_zero f x p h) (from_zero f y q k)
  where
    k : T (le plus_zero y)
    k = le-trans-f f plus_zero x y (zero_number f) p q h l

    size_of : (z : Float) → T (real f z) → T (lt plus_zero z) → key f z ≡ overflow f + mag f z
    size_of z g a = ap (λ (s : Bool). keyed (overflow f) s (mag f z)) (above_zero f z (real-number f z g) a).0

    infinite : (z : Float) → z ≡ inf false → key f z ≡ overflow f + overflow f
    infinite z e = ap (key f) e ∙ ap (λ (m : ℕ). overflow f + m) (mag-inf f false)

    by_key : key f (square_root_of f x) ≤ key f (square_root_of f y) → T (le (square_root_of f x) (square_root_of f y))
    by_key = key→le f (square_root_of f x) (square_root_of f y) (root-number f x p h) (root-number f y q k)

    to-infinity : y ≡ inf false → T (le (square_root_of f x) (square_root_of f y))
    to-infinity e = subst (λ (z : Float). T (le (square_root_of f x) z)) (sym (root-of-infinity f y e)) (le-top f (square_root_of f x) (root-number f x p h))

    go : FromZero f x → FromZero f y → T (le (square_root_of f x) (square_root_of f y))
    go (nothing z e) b = by_key (omega (arith, ap (key f) e, keyed-none (overflow f) (sign x) (mag f x) z, key-zero f, le→key f plus_zero (square_root_of f y) (zero_number f) (root-number f y q k) (root-from-zero f y q k)))
    go (some g a) (nothing z e) = absurd (omega (arith, keyed-none (overflow f) (sign y) (mag f y) z, key-zero f, lt→key f plus_zero x (zero_number f) p a, le→key f x y p q l))
    go (some g a) (some g' a') =
        let m : mag f x ≤ mag f y = omega (arith, size_of x g a, size_of y g' a', le→key f x y p q l) in
        by_key (omega (arith, root-key f x g a, root-key f y g' a', sizes-never-fall f x y g g' a a' m))
    go (some g a) (all e) = to-infinity e
    go (all e) (all e') = to-infinity e'
    go (all e) (nothing z e') = absurd (omega (arith, keyed-none (overflow f) (sign y) (mag f y) z, infinite x e, overflow-pos f, le→key f x y p q l))
    go (all e) (some g a) = absurd (omega (arith, infinite x e, size_of y g a, mag-below f y g, le→key f x y p q l))

-- ---- by computation
pub root-of-one : square_root_of binary32 one ≡ one
unfolding square_root_of
root-of-one = refl

pub root-of-four : square_root_of binary32 (fin false 1 (pos 2)) ≡ fin false 1 (pos 1)
unfolding square_root_of
root-of-four = refl

-- the root of a number from 0 to 1 is at most 1
pub root-at-most-one : (x : Float) → T (number binary32 x) → T (le plus_zero x) → T (le x one) → T (le (square_root_of binary32 x) one)
root-at-most-one x p h l = subst (λ (z : Float). T (le (square_root_of binary32 x) z)) root-of-one (square-root-never-falls binary32 x one p (real-number binary32 one (real-one binary32)) h l)
