-- The magnitude of a number is a number of the same size with its sign clear, so it is never below
-- 0, and a number and its negation have the same one. Assumes nothing.
use Rattle.std.proofs.Common.{◌≡◌, zero, suc, false, T, refl, arith}
use lib.Ieee.{Float, nan, inf, fin, Format, fits, neg, le}
use Rattle.float_laws.specs.Round.{plus_zero}
use Rattle.float_laws.specs.Units.{number, real, sign, mag}
use Rattle.float_laws.specs.Mono.{key-nonneg}
use Rattle.float32.specs.Order.{magnitude}

pub magnitude-clear : (x : Float) → sign (magnitude x) ≡ false
unfolding magnitude
magnitude-clear nan = refl
magnitude-clear (inf s) = refl
magnitude-clear (fin s m e) = refl

pub magnitude-size : (f : Format) (x : Float) → mag f (magnitude x) ≡ mag f x
unfolding magnitude mag
magnitude-size f nan = refl
magnitude-size f (inf s) = refl
magnitude-size f (fin s m e) = refl

pub magnitude-neg : (x : Float) → magnitude (neg x) ≡ magnitude x
unfolding magnitude neg
magnitude-neg nan = refl
magnitude-neg (inf s) = refl
magnitude-neg (fin s m e) = refl

pub magnitude-fits : (f : Format) (x : Float) → T (fits f x) → T (fits f (magnitude x))
unfolding magnitude fits
magnitude-fits f nan h = tt
magnitude-fits f (inf s) h = tt
magnitude-fits f (fin s zero e) h = h
magnitude-fits f (fin s (suc m) e) h = h

pub magnitude-is-number : (f : Format) (x : Float) → T (number f x) → T (number f (magnitude x))
unfolding magnitude
magnitude-is-number f nan h = h
magnitude-is-number f (inf s) h = tt
magnitude-is-number f (fin s m e) h = magnitude-fits f (fin s m e) h

pub magnitude-is-real : (f : Format) (x : Float) → T (real f x) → T (real f (magnitude x))
unfolding magnitude
magnitude-is-real f nan h = h
magnitude-is-real f (inf s) h = h
magnitude-is-real f (fin s m e) h = magnitude-fits f (fin s m e) h

pub magnitude-nonneg : (f : Format) (x : Float) → T (number f x) → T (le plus_zero (magnitude x))
unfolding magnitude
magnitude-nonneg f nan p = absurd p
magnitude-nonneg f (inf s) p = key-nonneg f (inf false) tt (omega arith)
magnitude-nonneg f (fin s m e) p = key-nonneg f (fin false m e) (magnitude-is-number f (fin s m e) p) (omega arith)
