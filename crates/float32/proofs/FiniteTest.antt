-- The difference of a float with itself equals 0 exactly where the float is finite: of an infinity
-- it is NaN, otherwise it is the exact difference 0, rounded. Assumes nothing.
use Rattle.std.proofs.Common.{◌≡◌, ℕ, ◌+◌, ◌-◌, ◌≤◌, Bool, true, false, T, refl, ◌∙◌, arith}
use lib.Ieee.{Float, nan, inf, fin, Format, binary32, of_bits, of_fields, odd, sub, eq, fits}
use lib.Ieee.Bits.{is_true}
use lib.Ieee.Scale.{overflow}
use Rattle.float_laws.specs.Units.{real, key, keyed, sign, mag, key→eq, real-number}
use Rattle.float_laws.specs.Round.{plus_zero, key-zero, real-zero}
use Rattle.float_laws.specs.Mono.{rnd_u, rnd_u-zero, center-up, real-le, sub-key, sub_number}
use Rattle.float32.specs.Order.{finite}

cancelled : (K : ℕ) (s : Bool) (m : ℕ) → m ≤ K → keyed K s m + (K + K - keyed K s m) ≡ K + K + 0
cancelled K true m h = omega arith
cancelled K false m h = omega arith

pub zero-difference : (f : Format) (x : Float) → T (real f x) → T (eq (sub f x x) plus_zero)
zero-difference f x p =
    let K = overflow f in
    let k : key f (sub f x x) ≡ K + rnd_u f 0 = sub-key f x x p p ∙ center-up K (rnd_u f) (key f x + (K + K - key f x)) 0 (cancelled K (sign x) (mag f x) (real-le f x p)) in
    key→eq f (sub f x x) plus_zero (sub_number f x x p p) (real-number f plus_zero (real-zero f false)) (omega (arith, k, rnd_u-zero f, key-zero f))

pub difference-test : (x : Float) → T (fits binary32 x) → eq (sub binary32 x x) (of_bits binary32 0) ≡ finite x
unfolding sub eq finite of_bits of_fields odd
difference-test nan h = refl
difference-test (inf true) h = refl
difference-test (inf false) h = refl
difference-test (fin s m e) h = is_true (eq (sub binary32 (fin s m e) (fin s m e)) plus_zero) (zero-difference binary32 (fin s m e) h)
