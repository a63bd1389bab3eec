-- The gain of a voice on a side is from 0 to 8, finite: its expression, which is from 0 to 4, times
-- a balance from 0 to 2. It is so of every pan and expression, as what is not finite counts as the
-- centre and as 1. Assumes nothing.
use mathlib.Core.Bool.{cond}
use Prim.Native.Nat.{◌*◌, ◌^◌, ◌≤◌}
use native.Mathlib.Nat.{le_trans}
use lib.Dec.{T, lit≤}
use lib.Ieee.{Float, nan, inf, fin, binary32, low, of_bits, le, lt, eq, fits}
use Rattle.float_laws.specs.Units.{mag, real, real-number}
use Rattle.float_laws.specs.Order as order
use Rattle.float_laws.specs.Mono.{sizes}
use Rattle.float_laws.specs.Bounds.{real-between}
use Rattle.float_laws.specs.Rise.{Upto, upto-mul}
use Rattle.float32.specs.Order.{clamp, finite}
use Rattle.float32.specs.Remainder.{zero, one}
use Rattle.scene.specs.declared.MaskVoice.{MaskVoice}
use Rattle.lobes.specs.Pan.{Side, hard_left, hard_right, max_expression_gain, pan_of, expression_of, channel_gain}
use Rattle.lobes.proofs.Balances.{balance-upto}

-- ---- a number between two ends
record Within (lo hi x : Float) : Type 0 where
  is_real : T (real binary32 x)
  low : T (le lo x)
  high : T (le x hi)

clamped : (lo hi x : Float) → T (real binary32 lo) → T (real binary32 hi) → T (le lo hi) → T (real binary32 x) → Within lo hi (clamp lo hi x)
unfolding clamp
clamped lo hi x p q ends r =
    let lo-number = real-number binary32 lo p in
    let hi-number = real-number binary32 hi q in
    let n = order.clamp-number binary32 lo hi lo-number hi-number ends x (real-number binary32 x r) in
    let l = order.clamp-low binary32 lo hi lo-number hi-number ends x (real-number binary32 x r) in
    let h = order.clamp-high binary32 lo hi lo-number hi-number ends x (real-number binary32 x r) in
    record { is_real = real-between binary32 lo (order.clamp lo hi x) hi n p q l h; low = l; high = h }

-- ---- the pan and the expression
limited : Float → Float → Float → Float → Float
limited lo hi other x = cond (finite x) (clamp lo hi x) other

limited-within : (lo hi other x : Float) → T (real binary32 lo) → T (real binary32 hi) → T (le lo hi) → Within lo hi other → T (fits binary32 x) → Within lo hi (limited lo hi other x)
unfolding limited finite
limited-within lo hi other nan p q ends o t = o
limited-within lo hi other (inf s) p q ends o t = o
limited-within lo hi other (fin s m e) p q ends o t = clamped lo hi (fin s m e) p q ends t

module _ (voice : MaskVoice) (pan-fits : T (fits binary32 voice.pan)) (expression-fits : T (fits binary32 voice.expression_gain)) where
  pan-within : Within hard_left hard_right (pan_of voice)
  unfolding limited of_bits fits le lt eq
  pan-within = limited-within hard_left hard_right zero voice.pan tt tt tt (record { is_real = tt; low = tt; high = tt }) pan-fits

  expression-within : Within zero max_expression_gain (expression_of voice)
  unfolding limited of_bits fits le lt eq
  expression-within = limited-within zero max_expression_gain one voice.expression_gain tt tt tt (record { is_real = tt; low = tt; high = tt }) expression-fits

  most : mag binary32 max_expression_gain ≤ 2 ^ 2 * 2 ^ low binary32
  unfolding of_bits mag
  most = lit≤ tt

  pub expression-upto : Upto binary32 2 (expression_of voice)
  unfolding of_bits fits
  expression-upto =
      let w = expression-within in
      record { is_real = w.is_real; low = w.low; high = le_trans (sizes binary32 (expression_of voice) max_expression_gain w.is_real tt w.low w.high).0 most }

  pub channel-gain-upto : (side : Side) → Upto binary32 3 (channel_gain side voice)
  unfolding channel_gain
  channel-gain-upto side =
      let w = pan-within in
      upto-mul binary32 2 1 (expression_of voice) _ (lit≤ tt) expression-upto (balance-upto (pan_of voice) w.is_real w.low w.high side)
