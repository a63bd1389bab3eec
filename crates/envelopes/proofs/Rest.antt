-- A fade of no time is over at once: the part of the way is then 1, and a released level is 0 after
-- one step, since level + (0 - level) is exact. Assumes nothing.
use mathlib.Core.Path.{◌≡◌, ap, ◌∙◌}
use mathlib.Core.Bool.{Bool, true, false}
use Prim.Native.Nat.{ℕ, ◌+◌, ◌-◌, ◌≤◌, ◌<◌}
use native.Mathlib.Nat.{add-zero}
use native.Mathlib.Omega.{arith}
use lib.Dec.{T}
use lib.Ieee.{Float, Format, binary32, of_bits, fits, add, sub, mul, le, lt}
use lib.Ieee.Bits.{is_true}
use lib.Ieee.Scale.{overflow}
use Rattle.float_laws.specs.Units.{mag, sign, number, real, key, keyed, real-number, real-of-size, mag-below, mag-le, lt→key, key→lt}
use Rattle.float_laws.specs.Round.{plus_zero, real-zero, key-zero, rnd-real}
use Rattle.float_laws.specs.Mono.{rnd_u, rnd_u-zero, center-up, center-down, add-key, add-number, sub-key, sub_number, size-nonneg}
use Rattle.float_laws.specs.Bounds as bounds
use Rattle.float_laws.specs.Bounds.{mul-one-f}
use Rattle.float32.specs.Order.{magnitude}
use Rattle.float32.specs.Remainder.{zero, one}
use Rattle.float32.proofs.InUnit.{InUnit}
use Rattle.float32.proofs.Magnitude.{magnitude-clear, magnitude-size, magnitude-is-number}
use Rattle.envelopes.specs.Envelope.{smoothing_alpha, SILENCE, settled, next_level}

pub no-time : (elapsed time : Float) → le time zero ≡ true → smoothing_alpha elapsed time ≡ one
unfolding smoothing_alpha
no-time elapsed time e = rw e

-- ---- level + (0 - level) is 0
below_top : (K : ℕ) (s : Bool) (n m : ℕ) → keyed K s n ≡ K - m → m < K → n ≤ K → n < K
below_top K false n m e h l = omega arith
below_top K true n m e h l = omega arith

nothing : (K : ℕ) (s : Bool) (n : ℕ) → keyed K s n ≡ K → n ≤ K → n ≡ 0
nothing K false n e l = omega arith
nothing K true n e l = omega arith

module _ (f : Format) (level : Float) (p : T (real f level)) (h : T (le plus_zero level)) where
  gap-key : key f (sub f plus_zero level) ≡ overflow f - mag f level
  gap-key =
      let K = overflow f in
      let m = mag f level in
      let k = size-nonneg f level p h in
      let b = mag-below f level p in
      sub-key f plus_zero level (real-zero f false) p
      ∙ center-down K (rnd_u f) (key f plus_zero + (K + K - key f level)) m (rnd_u-zero f) (omega (arith, key-zero f))
      ∙ ap (λ (n : ℕ). K - n) (rnd-real f level p)

  gap-number : T (number f (sub f plus_zero level))
  gap-number = sub_number f plus_zero level (real-zero f false) p

  gap-real : T (real f (sub f plus_zero level))
  gap-real = real-of-size f (sub f plus_zero level) gap-number (below_top (overflow f) (sign (sub f plus_zero level)) (mag f (sub f plus_zero level)) (mag f level) gap-key (mag-below f level p) (mag-le f (sub f plus_zero level) gap-number))

  end-key : key f (add f level (sub f plus_zero level)) ≡ overflow f
  end-key =
      let K = overflow f in
      let k = size-nonneg f level p h in
      let b = mag-below f level p in
      add-key f level (sub f plus_zero level) p gap-real
      ∙ center-up K (rnd_u f) (key f level + key f (sub f plus_zero level)) 0 (omega (arith, gap-key))
      ∙ ap (λ (n : ℕ). K + n) (rnd_u-zero f)
      ∙ add-zero K

  end-number : T (number f (add f level (sub f plus_zero level)))
  end-number = add-number f level (sub f plus_zero level) p gap-real

  end_below : (y : Float) → T (number f y) → T (lt plus_zero y) → T (lt (magnitude (add f level (sub f plus_zero level))) y)
  end_below y q l =
      let x = add f level (sub f plus_zero level) in
      let e : key f (magnitude x) ≡ overflow f + mag f x = rw (magnitude-clear x, magnitude-size f x) in
      let z = nothing (overflow f) (sign x) (mag f x) end-key (mag-le f x end-number) in
      key→lt f (magnitude x) y (magnitude-is-number f x end-number) q
      (omega (arith, e, z, key-zero f, lt→key f plus_zero y (real-number f plus_zero (real-zero f false)) q l))

pub released-at-once : (level : Float) → InUnit level → next_level false one level ≡ zero
unfolding settled of_bits fits lt
released-at-once level u =
    let f = binary32 in
    let x = sub f plus_zero level in
    let same : add f level (mul f x bounds.one) ≡ add f level x = ap (add f level) (mul-one-f f x (gap-real f level u.finite u.low)) in
    rw (same, is_true (lt (magnitude (add f level x)) SILENCE) (end_below f level u.finite u.low SILENCE tt tt))
