-- Ranges and units: what stays between 0 and 1, what 0 and 1 do, and that a value between two
-- finite ones is finite. Assumes nothing.
use Rattle.std.specs.Prelude.{◌≡◌, refl, Bool, true, false, ℕ, ◌+◌, ◌-◌, ◌*◌, ◌^◌, ◌≤◌, ◌<◌, pos, T, Float}
use Rattle.std.proofs.Common.{ap, ◌∙◌, one-mul, div-one, mul_assoc, le_of_eq, le_refl, le_trans, arith, pow_pos}
use Rattle.std.specs.Float.{nan, inf, fin, Format, binary32, binary64}
use Rattle.std.specs.Float.Ieee.{low, fits, round, le, eq, unlike, add, sub, mul}
use Rattle.std.specs.Float.Ieee.Scale.{overflow}
use Rattle.float_laws.specs.Units.{mag, sign, number, real, key, keyed, mag-below, mag-inf, le→key, key→le, key→eq, real-number, overflow-pos, unique, keyed-le, keyed-ge}
use Rattle.float_laws.specs.Round.{plus_zero, key-zero, rnd-zero, rnd-exact, rnd-real, key-round, round_number, real-zero, mag-round, sign-round, squared-pos}
use Rattle.float_laws.specs.Ops.{mul-round, unlike-clear}
use Rattle.float_laws.specs.Mono.{center, center-up, center-down, rnd_u, rnd_m, rnd_m-mono, add-number, add-key, sub_number, sub-key, mul-number, mul-key-nonneg, mul-nonneg, key-nonneg, size-nonneg, sizes}

-- ---- one
abbrev pub one : Float
one = fin false 1 (pos 0)

pub real-one : (f : Format) → T (real f one)
unfolding fits
real-one binary32 = tt
real-one binary64 = tt

pub mag-one : (f : Format) → mag f one ≡ 2 ^ low f
unfolding mag
mag-one f = div-one (1 * 1 * 2 ^ low f) ∙ one-mul (2 ^ low f)

pub one-nonneg : T (le plus_zero one)
unfolding le
one-nonneg = tt

-- ---- finite
between : (K : ℕ) → 0 < K → (s : Bool) (a b : ℕ) → a < K → b < K → K - a ≤ keyed K s K → keyed K s K ≤ K + b → ⊥
between K P false a b A B h k = omega arith
between K P true a b A B h k = omega arith

pub real-between : (f : Format) (a x b : Float) → T (number f x) → T (real f a) → T (real f b) → T (le a x) → T (le x b) → T (real f x)
real-between f a nan b p q r h k = p
real-between f a (fin s m e) b p q r h k = p
real-between f a (inf s) b p q r h k =
    let K = overflow f in
    let x = rw mag-inf at (le→key f a (inf s) (real-number f a q) p h) in
    let y = rw mag-inf at (le→key f (inf s) b p (real-number f b r) k) in
    absurd
    (between K (overflow-pos f) s (mag f a) (mag f b) (mag-below f a q) (mag-below f b r)
    (le_trans (keyed-ge K (sign a) (mag f a)) x)
    (le_trans y (keyed-le K (sign b) (mag f b))))

-- ---- sums and differences that are not negative
pub add-nonneg : (f : Format) (x y : Float) → T (real f x) → T (real f y) → T (le plus_zero x) → T (le plus_zero y) → T (le plus_zero (add f x y))
add-nonneg f x y p q X Y =
    let a = size-nonneg f x p X in
    let b = size-nonneg f y q Y in
    key-nonneg f (add f x y) (add-number f x y p q)
    (omega (arith, add-key f x y p q, center-up (overflow f) (rnd_u f) (key f x + key f y) (mag f x + mag f y) (omega arith)))

pub sub-nonneg : (f : Format) (x y : Float) → T (real f x) → T (real f y) → T (le y x) → T (le plus_zero (sub f x y))
sub-nonneg f x y p q h =
    let K = overflow f in
    let l = le→key f y x (real-number f y q) (real-number f x p) h in
    let b = keyed-le K (sign y) (mag f y) in
    let m = mag-below f y q in
    key-nonneg f (sub f x y) (sub_number f x y p q)
    (omega (arith, sub-key f x y p q, center-up K (rnd_u f) (key f x + (K + K - key f y)) (key f x - key f y) (omega arith)))

-- ---- the product with what is at most 1
pub rnd_m-le : (f : Format) (x y : Float) → T (real f x) → T (real f y) → T (le plus_zero y) → T (le y one) → rnd_m f (mag f x) (mag f y) ≤ mag f x
rnd_m-le f x y p q Y h =
    let L = 2 ^ low f in
    let a : mag f y ≤ L = le_trans (sizes f y one q (real-one f) Y h).0 (le_of_eq (mag-one f)) in
    le_trans (rnd_m-mono f (mag f x) (mag f x) (mag f y) L (le_refl (mag f x)) a)
    (le_of_eq (rnd-exact f x (mag f x * L) (L * L) p (squared-pos f) (mul_assoc (mag f x) L L)))

pub mul-le-left : (f : Format) (x y : Float) → T (real f x) → T (real f y) → T (le plus_zero x) → T (le plus_zero y) → T (le y one) → T (le (mul f x y) x)
mul-le-left f x y p q X Y h =
    key→le f (mul f x y) x (mul-number f x y p q) (real-number f x p)
    (omega (arith, size-nonneg f x p X, mul-key-nonneg f x y p q X Y, rnd_m-le f x y p q Y h))

pub mul-real : (f : Format) (x y : Float) → T (real f x) → T (real f y) → T (le plus_zero x) → T (le plus_zero y) → T (le y one) → T (real f (mul f x y))
mul-real f x y p q X Y h =
    real-between f plus_zero (mul f x y) x (mul-number f x y p q) (real-zero f false) p (mul-nonneg f x y p q X Y) (mul-le-left f x y p q X Y h)

-- ---- 1 and 0 change nothing
pub mul-one-f : (f : Format) (x : Float) → T (real f x) → mul f x one ≡ x
mul-one-f f x p =
    let L = 2 ^ low f in
    let r = mul-round f x one p (real-one f) in
    unique f (mul f x one) x (mul-number f x one p (real-one f)) (real-number f x p)
    (ap sign r ∙ sign-round f (unlike (sign x) false) (mag f x * mag f one) (L * L) ∙ unlike-clear (sign x) false refl)
    (ap (mag f) r ∙ mag-round f (unlike (sign x) false) (mag f x * mag f one) (L * L)
    ∙ rnd-exact f x (mag f x * mag f one) (L * L) p (squared-pos f) (ap (λ (z : ℕ). mag f x * z * L) (mag-one f) ∙ mul_assoc (mag f x) L L))

pub add-zero-f : (f : Format) (x : Float) → T (real f x) → T (eq (add f x plus_zero) x)
add-zero-f f x p =
    let K = overflow f in
    key→eq f (add f x plus_zero) x (add-number f x plus_zero p (real-zero f false)) (real-number f x p)
    (add-key f x plus_zero p (real-zero f false) ∙ ap (λ (z : ℕ). center K (rnd_u f) (key f x + z)) (key-zero f) ∙ go (sign x))
  where
    go : (s : Bool) → center (overflow f) (rnd_u f) (keyed (overflow f) s (mag f x) + overflow f) ≡ keyed (overflow f) s (mag f x)
    go false = center-up (overflow f) (rnd_u f) (overflow f + mag f x + overflow f) (mag f x) (omega arith) ∙ ap (λ (z : ℕ). overflow f + z) (rnd-real f x p)
    go true =
        center-down (overflow f) (rnd_u f) (overflow f - mag f x + overflow f) (mag f x) (rnd-zero f (2 ^ low f) (pow_pos (low f)))
        (omega (arith, mag-below f x p))
        ∙ ap (λ (z : ℕ). overflow f - z) (rnd-real f x p)

-- ---- what is rounded with a clear sign is not negative
pub round-nonneg : (f : Format) (a c : ℕ) → T (le plus_zero (round f false a c))
round-nonneg f a c = key-nonneg f (round f false a c) (round_number f false a c) (omega (arith, key-round f false a c))
