-- A voice's level never falls as its own level, its volume or its pressure rises: each operation
-- keeps the order. It is finite and not negative. Assumes nothing.
use mathlib.Core.Path.{◌≡◌, refl}
use mathlib.Core.Bool.{Bool, true, false, cond}
use native.Mathlib.Omega.{arith}
use lib.Dec.{T, lit≤}
use lib.Count.{count_trailing_zeros}
use lib.Ieee.{Float, Format, binary32, fits, le, lt, add, sum, mul, round, size, span, climb, units, odd, of_bits}
use Rattle.float_laws.specs.Units.{mag, number, real, real-number, key→le}
use Rattle.float_laws.specs.Order as order
use Rattle.float_laws.specs.Order.{le-trans-f, le-refl-f}
use Rattle.float_laws.specs.Round.{plus_zero}
use Rattle.float_laws.specs.Mono.{add-mono, size-nonneg}
use Rattle.float_laws.specs.Bounds as bounds
use Rattle.float_laws.specs.Bounds.{mul-le-left}
use Rattle.float_laws.specs.Rise.{Upto, Rise, Up, upto-level, upto-clamp, rise-refl, rise-mul, rise-add, up-scale, scale-up}
use Rattle.float32.specs.Order.{maximum, clamp}
use Rattle.float32.specs.Remainder.{zero, one}
use Rattle.float32.proofs.OrderAgrees.{clamp-agrees, maximum-larger}
use Rattle.scene.specs.declared.MaskVoice.{MaskVoice}
use Rattle.scene.specs.Voices.{RealVoice}
use Rattle.lobes.specs.Tone.{least_pressure_gain, pressure_gain_range, pressure_gain, note_level}

pub zero_is : zero ≡ plus_zero
unfolding of_bits
zero_is = refl

pub one-is : one ≡ bounds.one
unfolding of_bits
one-is = refl

-- ---- a clamp to 0..1, of any two in order
pub clamp-unit : (x : Float) → T (number binary32 x) → Upto binary32 0 (clamp zero one x)
clamp-unit x p = rw (zero_is, one-is, clamp-agrees) (upto-clamp binary32 x p)

clamp-up : (x y : Float) → T (number binary32 x) → T (number binary32 y) → T (le x y) → T (le (clamp zero one x) (clamp zero one y))
unfolding fits
clamp-up x y p q h = rw (zero_is, one-is, clamp-agrees plus_zero bounds.one x, clamp-agrees plus_zero bounds.one y) (order.clamp-mono binary32 plus_zero bounds.one tt tt bounds.one-nonneg x y p q h)

clamp-rises : (x y : Float) → T (real binary32 x) → T (real binary32 y) → T (le x y) → Rise binary32 0 (clamp zero one x) (clamp zero one y)
clamp-rises x y p q h =
    let m = real-number binary32 x p in
    let n = real-number binary32 y q in
    record { from = clamp-unit x m; to = clamp-unit y n; up = clamp-up x y m n h }

-- ---- the pressure: 0.35 and 0.65 add to 1
parts : Upto binary32 0 least_pressure_gain × Upto binary32 0 pressure_gain_range × T (le (add binary32 least_pressure_gain pressure_gain_range) bounds.one)
unfolding of_bits fits le lt mag add sum round size span climb units odd count_trailing_zeros
parts = (record { is_real = tt; low = tt; high = lit≤ tt }, record { is_real = tt; low = tt; high = lit≤ tt }, tt)

whole-real : T (real binary32 (add binary32 least_pressure_gain pressure_gain_range))
unfolding of_bits fits add sum round size span climb units odd count_trailing_zeros
whole-real = tt

pub at_most_one : (f : Format) (x : Float) → Upto f 0 x → T (le x bounds.one)
at_most_one f x u =
    key→le f x bounds.one (real-number f x u.is_real) (real-number f bounds.one (bounds.real-one f))
    (omega (arith, size-nonneg f x u.is_real u.low, u.high, bounds.mag-one f))

abbrev added : Float → Float
added c = add binary32 least_pressure_gain (mul binary32 pressure_gain_range c)

module _ (c : Float) (u : Upto binary32 0 c) (n : Upto binary32 1 (added c)) (m : Upto binary32 0 (mul binary32 pressure_gain_range c)) where
  added-most : T (le (added c) bounds.one)
  added-most =
      let a = parts.0 in
      let b = parts.1 in
      let w = added c in
      let whole = add binary32 least_pressure_gain pressure_gain_range in
      le-trans-f binary32 w whole bounds.one (real-number binary32 w n.is_real) (real-number binary32 whole whole-real) (real-number binary32 bounds.one (bounds.real-one binary32))
      (add-mono binary32 least_pressure_gain least_pressure_gain (mul binary32 pressure_gain_range c) pressure_gain_range a.is_real a.is_real m.is_real b.is_real
      (le-refl-f binary32 least_pressure_gain (real-number binary32 least_pressure_gain a.is_real))
      (mul-le-left binary32 pressure_gain_range c b.is_real u.is_real b.low u.low (at_most_one binary32 c u)))
      parts.2

  added-unit : Upto binary32 0 (added c)
  added-unit = upto-level binary32 (added c) n.is_real n.low added-most

pub pressure-rises : (x y : Float) → T (real binary32 x) → T (real binary32 y) → T (le x y) → Rise binary32 0 (pressure_gain x) (pressure_gain y)
unfolding pressure_gain
pressure-rises x y p q h =
    let c = clamp-rises x y p q h in
    let m = rise-mul binary32 0 0 (lit≤ tt) (rise-refl binary32 parts.1) c in
    let n = rise-add binary32 0 (lit≤ tt) (rise-refl binary32 parts.0) m in
    record { from = added-unit (clamp zero one x) c.from n.from m.from; to = added-unit (clamp zero one y) c.to n.to m.to; up = n.up }

-- ---- the volume, from 0 up
module _ (x : Float) (p : T (real binary32 x)) where
  pub floored-is : maximum x zero ≡ order.larger x plus_zero
  floored-is = rw zero_is (maximum-larger binary32 x plus_zero (real-number binary32 x p))

  floored-real : T (real binary32 (maximum x zero))
  unfolding fits
  floored-real = rw floored-is (go (lt x plus_zero))
    where
      go : (b : Bool) → T (real binary32 (cond b plus_zero x))
      go true = tt
      go false = p

  floored-low : T (le plus_zero (maximum x zero))
  unfolding fits
  floored-low = rw floored-is (order.larger-right binary32 x plus_zero (real-number binary32 x p) tt)

pub floored-rises : (x y : Float) → T (real binary32 x) → T (real binary32 y) → T (le x y) → Up binary32 (maximum x zero) (maximum y zero)
unfolding fits le
floored-rises x y p q h =
    record {
      from-real = floored-real x p;
      to-real = floored-real y q;
      from_low = floored-low x p;
      to_low = floored-low y q;
      up = rw (floored-is x p, floored-is y q) (order.larger-mono binary32 x y plus_zero plus_zero (real-number binary32 x p) (real-number binary32 y q) tt tt h tt);
    }

-- ---- all three
pub note-level-rises : (a b : MaskVoice) → RealVoice a → RealVoice b → Rise binary32 0 a.level b.level → T (le a.volume_gain b.volume_gain) → T (le a.pressure b.pressure)
    → Up binary32 (note_level a) (note_level b)
unfolding note_level
note-level-rises a b u v level volume pressure =
    up-scale binary32 (scale-up binary32 level (floored-rises a.volume_gain b.volume_gain u.volume-real v.volume-real volume))
    (pressure-rises a.pressure b.pressure u.pressure-real v.pressure-real pressure)
