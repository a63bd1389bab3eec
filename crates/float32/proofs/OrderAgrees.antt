-- Other forms of maximum, minimum and clamp: "where one of the two is NaN, both give the other",
-- and, of numbers, the `larger` and `smaller` whose laws of order float_laws has. Assumes nothing.
use Rattle.std.proofs.Common.{◌≡◌, T, refl}
use lib.Ieee.{Float, nan, inf, fin, Format, lt, is_nan}
use Rattle.float_laws.specs.Order as laws
use Rattle.float_laws.specs.Units.{number}
use Rattle.float32.specs.Order.{maximum, minimum, clamp}

-- ---- NaN
pub maximum-nan-first : (b : Float) → maximum nan b ≡ b
unfolding maximum lt is_nan
maximum-nan-first b = refl

pub maximum-nan-second : (a : Float) → maximum a nan ≡ a
unfolding maximum lt is_nan
maximum-nan-second nan = refl
maximum-nan-second (inf s) = refl
maximum-nan-second (fin s m e) = refl

pub minimum-nan-first : (b : Float) → minimum nan b ≡ b
unfolding minimum lt is_nan
minimum-nan-first nan = refl
minimum-nan-first (inf s) = refl
minimum-nan-first (fin s m e) = refl

pub minimum-nan-second : (a : Float) → minimum a nan ≡ a
unfolding minimum lt is_nan
minimum-nan-second nan = refl
minimum-nan-second (inf s) = refl
minimum-nan-second (fin s m e) = refl

-- ---- the laws of order
pub maximum-agrees : (a b : Float) → maximum a b ≡ laws.maximum a b
unfolding maximum lt is_nan
maximum-agrees nan b = refl
maximum-agrees (inf s) b = refl
maximum-agrees (fin s m e) b = refl

pub clamp-agrees : (lo hi x : Float) → clamp lo hi x ≡ laws.clamp lo hi x
unfolding clamp
clamp-agrees lo hi x = refl

-- where the first is a number
pub maximum-larger : (f : Format) (a b : Float) → T (number f a) → maximum a b ≡ laws.larger a b
unfolding maximum is_nan
maximum-larger f nan b p = absurd p
maximum-larger f (inf s) b p = refl
maximum-larger f (fin s m e) b p = refl

pub minimum-smaller : (f : Format) (a b : Float) → T (number f a) → minimum a b ≡ laws.smaller a b
unfolding minimum is_nan
minimum-smaller f nan b p = absurd p
minimum-smaller f (inf s) b p = refl
minimum-smaller f (fin s m e) b p = refl
