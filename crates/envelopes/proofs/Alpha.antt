-- The part of the way that a level goes lies in 0..1, for every elapsed time and fade within their
-- limits: -elapsed / time is at most 0, so its exponential is in 0..1, and so is 1 less that.
-- Assumes nothing.
use mathlib.Core.Path.{◌≡◌, ap, ◌∙◌}
use mathlib.Core.Bool.{Bool, true, false, not, cond}
use Prim.Native.Nat.{ℕ, ◌+◌}
use native.Mathlib.Omega.{arith}
use lib.Dec.{T}
use lib.IntN.{pos}
use lib.Ieee.{Float, Format, binary32, of_bits, fits, sub, mul, div, neg, le, lt}
use lib.Ieee.Scale.{overflow}
use Rattle.float_laws.specs.Units.{mag, sign, real, key, keyed, real-number, key→le, le→key}
use Rattle.float_laws.specs.Order.{not-le-f}
use Rattle.float_laws.specs.Round.{plus_zero, real-zero, key-zero, mag-zero, rnd, rnd-zero}
use Rattle.float_laws.specs.Mono.{real-neg, key-neg, nonneg-key, above_zero, div-number, div-key, div_mono}
use Rattle.float_laws.specs.Bounds as bounds
use Rattle.float_laws.specs.Bounds.{mul-real}
use Rattle.float32.specs.Constants.{log2_e}
use Rattle.float32.proofs.InUnit.{InUnit, one-in-unit, one_less}
use Rattle.float32.proofs.Limits.{within_low, within_real}
use Rattle.limits.specs.Limits as limits
use Rattle.limits.specs.Limits.{least_elapsed, most_elapsed, least_fade, most_fade}
use Rattle.power.specs.Decimal.{exp}
use Rattle.power.proofs.Range.{E2-nonneg, E2-real}
use Rattle.power.proofs.Bases.{exp-at-most-one}
use Rattle.envelopes.specs.Envelope.{smoothing_alpha, seconds_per_ms, fade_alpha}

-- ---- -elapsed / time is at most 0
module _ (f : Format) (elapsed time : Float) (p : T (real f elapsed)) (h : T (le plus_zero elapsed)) (q : T (real f time)) (l : T (lt plus_zero time)) where
  ratio-low : T (le (div f (neg elapsed) time) plus_zero)
  ratio-low =
      let z = real-zero f false in
      let nz = real-number f plus_zero z in
      let n = real-neg f elapsed p in
      let pn = real-number f elapsed p in
      let a = (above_zero f time (real-number f time q) l).1 in
      let below : T (le (neg elapsed) plus_zero) = key→le f (neg elapsed) plus_zero (real-number f (neg elapsed) n) nz (omega (arith, key-neg f elapsed pn, nonneg-key f elapsed pn h, key-zero f)) in
      let at_zero : key f (div f plus_zero time) ≡ overflow f + 0 = div-key f plus_zero time z q l ∙ ap (keyed (overflow f) (sign plus_zero)) (ap (λ (m : ℕ). rnd f m (mag f time)) (mag-zero f false (pos 0)) ∙ rnd-zero f (mag f time) a) in
      let dn = div-number f (neg elapsed) time n q a in
      let zn = div-number f plus_zero time z q a in
      key→le f (div f (neg elapsed) time) plus_zero dn nz
      (omega (arith, le→key f (div f (neg elapsed) time) (div f plus_zero time) dn zn (div_mono f (neg elapsed) plus_zero time n z q l below), key-zero f))

-- ---- the fraction of the distance
exp-unit : (y : Float) → T (le y plus_zero) → InUnit (exp y)
exp-unit y h = record { finite = E2-real (mul binary32 y log2_e); low = E2-nonneg (mul binary32 y log2_e); high = exp-at-most-one y h }

pub alpha-unit : (elapsed time : Float) → T (real binary32 elapsed) → T (le plus_zero elapsed) → T (real binary32 time) → InUnit (smoothing_alpha elapsed time)
unfolding smoothing_alpha of_bits
alpha-unit elapsed time p h q = go (le time plus_zero) (not-le-f binary32 time plus_zero (real-number binary32 time q) (real-number binary32 plus_zero (real-zero binary32 false)))
  where
    go : (b : Bool) → (T (not b) → T (lt plus_zero time)) → InUnit (cond b bounds.one (sub binary32 bounds.one (exp (div binary32 (neg elapsed) time))))
    go true l = one-in-unit
    go false l = one_less (exp (div binary32 (neg elapsed) time)) (exp-unit (div binary32 (neg elapsed) time) (ratio-low binary32 elapsed time p h q (l tt)))

-- ---- of a fade in milliseconds, within its limits
pub fade-alpha-unit : (elapsed fade : Float) → T (real binary32 elapsed) → T (le plus_zero elapsed) → T (real binary32 fade) → T (le plus_zero fade) → InUnit (fade_alpha elapsed fade)
unfolding of_bits le fits
fade-alpha-unit elapsed fade p h q l = alpha-unit elapsed (mul binary32 fade seconds_per_ms) p h (mul-real binary32 fade seconds_per_ms q tt l tt tt)

-- as the tests of the call say it, of f32 values
pub accepted-alpha-unit : (elapsed fade : Float) → T (fits binary32 elapsed) → T (fits binary32 fade) → T (limits.elapsed elapsed) → T (limits.fade fade) → InUnit (fade_alpha elapsed fade)
unfolding fits of_bits
accepted-alpha-unit elapsed fade p q s t =
    fade-alpha-unit elapsed fade
    (within_real least_elapsed most_elapsed elapsed s binary32 p tt tt)
    (within_low least_elapsed most_elapsed elapsed s)
    (within_real least_fade most_fade fade t binary32 q tt tt)
    (within_low least_fade most_fade fade t)
