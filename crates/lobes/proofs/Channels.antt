-- The gain of what a voice opens never falls as its expression rises, and is from 0 to 8: the
-- expression is at most 4 and a balance, never negative, at most 2. Assumes nothing.
use mathlib.Core.Path.{◌≡◌, refl}
use mathlib.Core.Bool.{true}
use native.Mathlib.Nat.{le_trans, le_of_eq}
use lib.Dec.{T, lit≤}
use lib.Count.{count_trailing_zeros}
use lib.Ieee.{Float, nan, inf, fin, binary32, fits, le, odd, of_bits, of_fields}
use Rattle.float_laws.specs.Units.{number, real, real-number}
use Rattle.float_laws.specs.Order as order
use Rattle.float_laws.specs.Round.{plus_zero}
use Rattle.float_laws.specs.Mono.{sizes}
use Rattle.float_laws.specs.Bounds.{real-between}
use Rattle.float_laws.specs.Power.{power, mag-power, real-power}
use Rattle.float_laws.specs.Rise.{Upto, Rise, rise-refl, rise-mul}
use Rattle.float32.specs.Order.{clamp, finite}
use Rattle.float32.proofs.OrderAgrees.{clamp-agrees}
use Rattle.scene.specs.declared.MaskVoice.{MaskVoice}
use Rattle.scene.specs.Voices.{RealVoice}
use Rattle.lobes.specs.Pan.{Side, hard_left, hard_right, max_expression_gain, balance, pan_of, expression_of, channel_gain}
use Rattle.lobes.proofs.NoteLevels.{zero_is}
use Rattle.lobes.proofs.Balances.{balance-upto}

real-finite : (x : Float) → T (real binary32 x) → finite x ≡ true
unfolding finite
real-finite nan p = absurd p
real-finite (inf s) p = absurd p
real-finite (fin s m e) p = refl

-- ---- the expression, from 0 to 4
four_is : max_expression_gain ≡ power 2
unfolding of_bits of_fields odd count_trailing_zeros
four_is = refl

four-real : T (real binary32 (power 2))
four-real = real-power binary32 2 (lit≤ tt)

four-above : T (le plus_zero (power 2))
unfolding le
four-above = tt

zero_number : T (number binary32 plus_zero)
unfolding fits
zero_number = tt

abbrev limited : Float → Float
limited x = order.clamp plus_zero (power 2) x

limited-upto : (x : Float) → T (number binary32 x) → Upto binary32 2 (limited x)
limited-upto x p =
    let n = real-number binary32 (power 2) four-real in
    let c = order.clamp-number binary32 plus_zero (power 2) zero_number n four-above x p in
    let a = order.clamp-low binary32 plus_zero (power 2) zero_number n four-above x p in
    let b = order.clamp-high binary32 plus_zero (power 2) zero_number n four-above x p in
    let r = real-between binary32 plus_zero (limited x) (power 2) c zero_number four-real a b in
    record { is_real = r; low = a; high = le_trans (sizes binary32 (limited x) (power 2) r four-real a b).0 (le_of_eq (mag-power binary32 2)) }

expression-is : (voice : MaskVoice) → T (real binary32 voice.expression_gain) → expression_of voice ≡ limited voice.expression_gain
expression-is voice p = rw (real-finite voice.expression_gain p, zero_is, four_is, clamp-agrees plus_zero (power 2) voice.expression_gain) refl

expression-rises : (a b : MaskVoice) → RealVoice a → RealVoice b → T (le a.expression_gain b.expression_gain) → Rise binary32 2 (expression_of a) (expression_of b)
expression-rises a b u v h =
    let x = a.expression_gain in
    let y = b.expression_gain in
    let m = real-number binary32 x u.expression-real in
    let n = real-number binary32 y v.expression-real in
    rw (expression-is a u.expression-real, expression-is b v.expression-real)
    (record { from = limited-upto x m; to = limited-upto y n; up = order.clamp-mono binary32 plus_zero (power 2) zero_number (real-number binary32 (power 2) four-real) four-above x y m n h })

-- ---- the balance of a pan in -1..1
record InPan (x : Float) : Type 0 where
  is_real : T (real binary32 x)
  least : T (le hard_left x)
  most : T (le x hard_right)

pan-ends : T (real binary32 hard_left) × T (real binary32 hard_right) × T (le hard_left hard_right)
unfolding of_bits of_fields odd count_trailing_zeros fits le
pan-ends = (tt, tt, tt)

clamped-pan : (x : Float) → T (real binary32 x) → InPan (clamp hard_left hard_right x)
clamped-pan x p =
    let e = pan-ends in
    let n = real-number binary32 x p in
    let l = real-number binary32 hard_left e.0 in
    let r = real-number binary32 hard_right e.1 in
    let c = order.clamp-number binary32 hard_left hard_right l r e.2 x n in
    let a = order.clamp-low binary32 hard_left hard_right l r e.2 x n in
    let b = order.clamp-high binary32 hard_left hard_right l r e.2 x n in
    rw (clamp-agrees hard_left hard_right x)
    (record { is_real = real-between binary32 hard_left (order.clamp hard_left hard_right x) hard_right c e.0 e.1 a b; least = a; most = b })

pub pan-is : (voice : MaskVoice) → T (real binary32 voice.pan) → pan_of voice ≡ clamp hard_left hard_right voice.pan
pan-is voice p = rw (real-finite voice.pan p) refl

pub voice-balance-upto : (side : Side) (voice : MaskVoice) → RealVoice voice → Upto binary32 1 (balance side (pan_of voice))
voice-balance-upto side voice u =
    let c = clamped-pan voice.pan u.pan-real in
    rw (pan-is voice u.pan-real) (balance-upto (clamp hard_left hard_right voice.pan) c.is_real c.least c.most side)

-- ---- both
pub channel-gain-rises : (side : Side) (a b : MaskVoice) → RealVoice a → RealVoice b → balance side (pan_of a) ≡ balance side (pan_of b) → T (le a.expression_gain b.expression_gain)
    → Rise binary32 3 (channel_gain side a) (channel_gain side b)
unfolding channel_gain
channel-gain-rises side a b u v same h =
    rw same (rise-mul binary32 2 1 (lit≤ tt) (expression-rises a b u v h) (rise-refl binary32 (voice-balance-upto side b v)))
