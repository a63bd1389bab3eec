-- The points of a curve that the bins read: each is an f32, none is above itself, a NaN neither,
-- and the gain rises where one point is not above another. Assumes nothing.
use mathlib.Core.Path.{◌≡◌}
use mathlib.Core.Bool.{not}
use mathlib.Core.List.{List}
use Prim.Native.Nat.{ℕ, ◌<◌}
use native.Mathlib.Omega.{arith}
use lib.Dec.{T, T_not}
use lib.ListN.{length, get_or}
use lib.Ieee.{Float, nan, inf, fin, binary32, fits, is_nan, le, lt}
use Rattle.float_laws.specs.Units.{number}
use Rattle.float_laws.specs.Order.{fits-number, not-lt-f, le-refl-f, le→not-lt-f}
use Rattle.float_laws.specs.Rise.{Rise}
use Rattle.limits.specs.Lengths.{manual_mask_points}
use Rattle.scene.specs.F32.{F32List}
use Rattle.masks.specs.Manual.{curve_point, manual_gain}
use Rattle.masks.proofs.Points.{point-le}
use Rattle.bin_gains.proofs.Rising.{manual-rises}
use Rattle.chord_law.specs.Calls.{Call, F32Call, Accepted, whole}
use Rattle.chord_law.specs.Curves.{above, NowhereAbove}
use Rattle.chord_law.proofs.Acceptance.{curve-length}

pub point-f32 :
    (call : Call) → Accepted (whole call) → F32Call call → (bin size : ℕ)
    → T (fits binary32 (get_or call.curve (curve_point bin size) nan))
point-f32 call p f bin size =
    f.curve-f32 (curve_point bin size) (omega (arith, curve-length call p, point-le bin size))

-- ---- no point is above itself
number-itself : (x : Float) → T (number binary32 x) → T (not (lt x x))
number-itself x n = le→not-lt-f binary32 x x n n (le-refl-f binary32 x n)

pub not-above-itself : (x : Float) → T (fits binary32 x) → T (not (above x x))
unfolding is_nan lt
not-above-itself nan f = tt
not-above-itself (inf s) f = number-itself (inf s) (fits-number binary32 (inf s) f tt)
not-above-itself (fin s m e) f = number-itself (fin s m e) (fits-number binary32 (fin s m e) f tt)

pub level-curve :
    (curve : List Float) → length curve ≡ manual_mask_points → F32List curve
    → NowhereAbove curve curve
level-curve curve long f32 i h = not-above-itself (get_or curve i nan) (f32 i (omega (arith, long)))

-- ---- a point that is not above another
number-at-most :
    (x y : Float) → T (fits binary32 x) → T (number binary32 y) → T (not (lt y x))
    → T (not (is_nan x)) → T (le x y)
number-at-most x y f q h n = not-lt-f binary32 y x q (fits-number binary32 x f n) h

at_most :
    (x y : Float) → T (fits binary32 x) → T (fits binary32 y) → T (not (above x y))
    → T (not (is_nan x)) → T (le x y)
unfolding is_nan
at_most x nan f g h n = absurd (T_not (not (is_nan x)) h n)
at_most x (inf s) f g h n = number-at-most x (inf s) f (fits-number binary32 (inf s) g tt) h n
at_most x (fin s m e) f g h n =
    number-at-most x (fin s m e) f (fits-number binary32 (fin s m e) g tt) h n

pub point-rises :
    (a b : List Float) (bin size : ℕ) → T (fits binary32 (get_or a (curve_point bin size) nan))
    → T (fits binary32 (get_or b (curve_point bin size) nan)) → NowhereAbove a b
    → Rise binary32 0 (manual_gain a bin size) (manual_gain b bin size)
point-rises a b bin size f g h =
    let there : curve_point bin size < manual_mask_points = omega (arith, point-le bin size) in
    manual-rises a b bin size f g (at_most _ _ f g (h (curve_point bin size) there))
