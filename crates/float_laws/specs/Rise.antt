-- Chains of operations on values that are not negative. `Upto f k x` says that x is finite, not
-- negative and at most 2 ^ k. `Rise f k x y` says that of x and y, and that x is at most y. Each
-- operation has one law: what its operands' relations give for its result. A chain's law is these
-- laws applied in the chain's order. Assumes nothing.
use Rattle.std.specs.Prelude.{◌≡◌, false, ℕ, suc, ◌+◌, ◌*◌, ◌^◌, ◌≤◌, max, T}
use Rattle.std.proofs.Common.{sym, ap, ◌∙◌, subst, subst₂, le_trans, le_of_eq, mul-le-mul, mul-le-mul_right, pow-suc, mul_right_comm, arith, pow_pos, pow-add, pow_mono}
use Rattle.std.proofs.Math.Nat.{mul-mul-mul_comm}
use lib.Ieee.{Float, Format, emax, low, le, add, mul}
use Rattle.std.specs.Float.Ieee.Scale.{overflow}
use Rattle.float_laws.specs.Units.{mag, number, real, key, key→le, real-number}
use Rattle.float_laws.specs.Order.{larger, larger-number, key-larger, larger-mono, clamp, clamp-number, clamp-low, clamp-high, clamp-mono, le-refl-f, maximum, maximum-number}
use Rattle.float_laws.specs.Round.{plus_zero, real-zero, squared-pos}
use Rattle.float_laws.specs.Ops.{mul-comm-f}
use Rattle.float_laws.specs.Mono.{rnd_u, rnd_m, center-up, add-key, add-number, mul-number, add-mono, mul_mono, mul-nonneg, mul-key-nonneg, key-nonneg, size-nonneg, sizes}
use Rattle.float_laws.specs.Bounds.{one, real-one, mag-one, one-nonneg, real-between, mul-real}
use Rattle.float_laws.specs.Power.{power, mag-power, real-power, rnd-power}

pub record Upto (f : Format) (k : ℕ) (x : Float) : Type 0 where
  pub is_real : T (real f x)
  pub low : T (le plus_zero x)
  pub high : mag f x ≤ 2 ^ k * 2 ^ lib.Ieee.low f

pub record Rise (f : Format) (k : ℕ) (x y : Float) : Type 0 where
  pub from : Upto f k x
  pub to : Upto f k y
  pub up : T (le x y)

-- ---- from a number, with its size
module _ (f : Format) where
  sized : (k : ℕ) → k ≤ emax f → (x : Float) (n : ℕ) → T (number f x) → key f x ≡ overflow f + n → n ≤ 2 ^ k * 2 ^ low f → Upto f k x
  sized k h x n p e l =
      let K = overflow f in
      let b : T (le plus_zero x) = key-nonneg f x p (omega arith) in
      let w : key f (power k) ≡ K + 2 ^ k * 2 ^ low f = ap (λ (z : ℕ). K + z) (mag-power f k) in
      let r : T (real f x) = real-between f plus_zero x (power k) p (real-zero f false) (real-power f k h) b (key→le f x (power k) p (real-number f (power k) (real-power f k h)) (omega arith)) in
      record { is_real = r; low = b; high = omega (arith, size-nonneg f x r b) }

  pub upto-weaken : {j k : ℕ} {x : Float} → j ≤ k → Upto f j x → Upto f k x
  upto-weaken {j} {k} {x} h u = record { is_real = u.is_real; low = u.low; high = le_trans u.high (mul-le-mul_right (2 ^ low f) (pow_mono h)) }

  pub upto-level : (x : Float) → T (real f x) → T (le plus_zero x) → T (le x one) → Upto f 0 x
  upto-level x p h k = record { is_real = p; low = h; high = le_trans (sizes f x one p (real-one f) h k).0 (omega (arith, mag-one f)) }

  -- ---- products
  factors : (a b m n L : ℕ) → m ≤ 2 ^ a * L → n ≤ 2 ^ b * L → m * n * L ≤ 2 ^ (a + b) * L * (L * L)
  factors a b m n L h k =
      le_trans (mul-le-mul_right L (le_trans (mul-le-mul h k) (le_of_eq (mul-mul-mul_comm (2 ^ a) L (2 ^ b) L))))
      (le_of_eq (ap (λ (z : ℕ). z * (L * L) * L) (sym (pow-add 2 a b)) ∙ mul_right_comm (2 ^ (a + b)) (L * L) L))

  pub upto-mul : (a b : ℕ) (x y : Float) → a + b ≤ emax f → Upto f a x → Upto f b y → Upto f (a + b) (mul f x y)
  upto-mul a b x y h u v =
      let L = 2 ^ low f in
      sized (a + b) h (mul f x y) (rnd_m f (mag f x) (mag f y)) (mul-number f x y u.is_real v.is_real)
      (mul-key-nonneg f x y u.is_real v.is_real u.low v.low)
      (rnd-power f (a + b) (mag f x * mag f y) (L * L) h (squared-pos f) (factors a b (mag f x) (mag f y) L u.high v.high))

  pub rise-mul : (a b : ℕ) {x x' y y' : Float} → a + b ≤ emax f → Rise f a x x' → Rise f b y y' → Rise f (a + b) (mul f x y) (mul f x' y')
  rise-mul a b {x} {x'} {y} {y'} h r s =
      record {
        from = upto-mul a b x y h r.from s.from;
        to = upto-mul a b x' y' h r.to s.to;
        up = mul_mono f x x' y y' r.from.is_real r.to.is_real s.from.is_real s.to.is_real r.from.low s.from.low r.up s.up;
      }

  -- ---- sums
  terms : (a m n L : ℕ) → m ≤ 2 ^ a * L → n ≤ 2 ^ a * L → m + n ≤ 2 ^ suc a * L
  terms a m n L h k = let e : 2 ^ suc a * L ≡ 2 ^ a * L * 2 = ap (λ (z : ℕ). z * L) (pow-suc 2 a) ∙ mul_right_comm (2 ^ a) 2 L in omega arith

  pub upto_add : (a : ℕ) (x y : Float) → suc a ≤ emax f → Upto f a x → Upto f a y → Upto f (suc a) (add f x y)
  upto_add a x y h u v =
      let L = 2 ^ low f in
      let K = overflow f in
      let m = mag f x in
      let n = mag f y in
      let kx = size-nonneg f x u.is_real u.low in
      let ky = size-nonneg f y v.is_real v.low in
      sized (suc a) h (add f x y) (rnd_u f (m + n)) (add-number f x y u.is_real v.is_real)
      (add-key f x y u.is_real v.is_real ∙ center-up K (rnd_u f) (key f x + key f y) (m + n) (omega arith))
      (rnd-power f (suc a) (m + n) L h (pow_pos (low f)) (mul-le-mul_right L (terms a m n L u.high v.high)))

  pub rise-add : (a : ℕ) {x x' y y' : Float} → suc a ≤ emax f → Rise f a x x' → Rise f a y y' → Rise f (suc a) (add f x y) (add f x' y')
  rise-add a {x} {x'} {y} {y'} h r s =
      record {
        from = upto_add a x y h r.from s.from;
        to = upto_add a x' y' h r.to s.to;
        up = add-mono f x x' y y' r.from.is_real r.to.is_real s.from.is_real s.to.is_real r.up s.up;
      }

  -- ---- what does not change, and the maximum of two
  num : {k : ℕ} {x : Float} → Upto f k x → T (number f x)
  num {k} {x} u = real-number f x u.is_real

  pub rise-refl : {k : ℕ} {x : Float} → Upto f k x → Rise f k x x
  rise-refl {k} {x} u = record { from = u; to = u; up = le-refl-f f x (num u) }

  pub rise-weaken : {j k : ℕ} {x y : Float} → j ≤ k → Rise f j x y → Rise f k x y
  rise-weaken h r = record { from = upto-weaken h r.from; to = upto-weaken h r.to; up = r.up }

  pub upto-maximum : (k : ℕ) (x y : Float) → k ≤ emax f → Upto f k x → Upto f k y → Upto f k (maximum x y)
  upto-maximum k x y h u v =
      let p = num u in
      let q = num v in
      subst (Upto f k) (sym (maximum-number f x y p))
      (sized k h (larger x y) (max (mag f x) (mag f y)) (larger-number f x y p q)
      (omega (arith, key-larger f x y p q, size-nonneg f x u.is_real u.low, size-nonneg f y v.is_real v.low))
      (omega (arith, u.high, v.high)))

  pub rise-maximum : (k : ℕ) {x x' y y' : Float} → k ≤ emax f → Rise f k x x' → Rise f k y y' → Rise f k (maximum x y) (maximum x' y')
  rise-maximum k {x} {x'} {y} {y'} h r s =
      let p = num r.from in
      let p' = num r.to in
      record {
        from = upto-maximum k x y h r.from s.from;
        to = upto-maximum k x' y' h r.to s.to;
        up =
            subst₂ (λ (a b : Float). T (le a b)) (sym (maximum-number f x y p)) (sym (maximum-number f x' y' p'))
            (larger-mono f x x' y y' p p' (num s.from) (num s.to) r.up s.up);
      }

  -- ---- a clamp to 0..1
  pub upto-clamp : (x : Float) → T (number f x) → Upto f 0 (clamp plus_zero one x)
  upto-clamp x p =
      let z = real-number f plus_zero (real-zero f false) in
      let w = real-number f one (real-one f) in
      let n = clamp-number f plus_zero one z w one-nonneg x p in
      let a = clamp-low f plus_zero one z w one-nonneg x p in
      let b = clamp-high f plus_zero one z w one-nonneg x p in
      upto-level (clamp plus_zero one x) (real-between f plus_zero (clamp plus_zero one x) one n (real-zero f false) (real-one f) a b) a b

-- ---- with no bound but that both are finite: a product with what is at most 1, on either side
pub record Up (f : Format) (x y : Float) : Type 0 where
  pub from-real : T (real f x)
  pub to-real : T (real f y)
  pub from_low : T (le plus_zero x)
  pub to_low : T (le plus_zero y)
  pub up : T (le x y)

module _ (f : Format) where
  below_one : (x : Float) → Upto f 0 x → T (le x one)
  below_one x u =
      key→le f x one (real-number f x u.is_real) (real-number f one (real-one f))
      (omega (arith, size-nonneg f x u.is_real u.low, u.high, mag-one f))

  pub up-scale : {x x' y y' : Float} → Up f x x' → Rise f 0 y y' → Up f (mul f x y) (mul f x' y')
  up-scale {x} {x'} {y} {y'} r s =
      record {
        from-real = mul-real f x y r.from-real s.from.is_real r.from_low s.from.low (below_one y s.from);
        to-real = mul-real f x' y' r.to-real s.to.is_real r.to_low s.to.low (below_one y' s.to);
        from_low = mul-nonneg f x y r.from-real s.from.is_real r.from_low s.from.low;
        to_low = mul-nonneg f x' y' r.to-real s.to.is_real r.to_low s.to.low;
        up = mul_mono f x x' y y' r.from-real r.to-real s.from.is_real s.to.is_real r.from_low s.from.low r.up s.up;
      }

  pub up-clamp : {x y : Float} → Up f x y → Rise f 0 (clamp plus_zero one x) (clamp plus_zero one y)
  up-clamp {x} {y} r =
      record {
        from = upto-clamp f x (real-number f x r.from-real);
        to = upto-clamp f y (real-number f y r.to-real);
        up =
            clamp-mono f plus_zero one (real-number f plus_zero (real-zero f false)) (real-number f one (real-one f)) one-nonneg x y
            (real-number f x r.from-real) (real-number f y r.to-real) r.up;
      }

  pub scale-up : {x x' y y' : Float} → Rise f 0 y y' → Up f x x' → Up f (mul f y x) (mul f y' x')
  scale-up {x} {x'} {y} {y'} s r = subst₂ (λ (a b : Float). Up f a b) (mul-comm-f f x y) (mul-comm-f f x' y') (up-scale r s)
