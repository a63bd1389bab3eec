-- The gain of a curve value: it is in 0..1 whatever the value, NaN too, and never falls as the
-- value rises, a NaN below every number; and document 01's two proved cases. At -144 and below, and
-- of NaN, it is 0, which is the least gain there is, and above that gains of at most 0 dB never
-- fall. Assumes nothing.
use mathlib.Core.Path.{◌≡◌, refl}
use mathlib.Core.Bool.{Bool, true, false, not, cond}
use mathlib.Core.List.{List}
use Prim.Native.Nat.{ℕ}
use lib.Dec.{T, T_not, not_T}
use lib.IntN.{pos}
use lib.ListN.{get_or}
use lib.Count.{count_trailing_zeros}
use lib.Ieee.{Float, nan, inf, fin, binary32, le, lt, is_nan, of_bits, fits, mul, div, round, size, span, climb, units, odd}
use Rattle.float_laws.specs.Units.{number}
use Rattle.float_laws.specs.Order as order
use Rattle.float_laws.specs.Order.{le_right, lt-of-lt-of-le-f}
use Rattle.float_laws.specs.Round.{plus_zero}
use Rattle.float_laws.specs.Bounds.{one}
use Rattle.float32.specs.Order.{minimum}
use Rattle.float32.specs.Remainder.{zero}
use Rattle.float32.specs.Value.{moved}
use Rattle.float32.proofs.OrderAgrees.{minimum-nan-first, minimum-smaller}
use Rattle.lists.specs.Interpolation.{interp}
use Rattle.power.specs.Table.{power_table}
use Rattle.power.specs.Power.{power_at, power_of, E2}
use Rattle.decibels.specs.Gain.{gain_of}
use Rattle.decibels.proofs.Gains.{gain-nonneg, gain-number, gain-at-most-one, gain-never-falls}
use Rattle.masks.specs.Manual.{manual_curve_mute_db, muted, curve_gain}
use Rattle.masks.specs.Manual.{curve_point, manual_gain}
use Rattle.float32.proofs.InUnit.{InUnit, in-unit, zero-in-unit, zero_is}

-- ---- "curve -144 gives 0, +6 gives 1"
pub curve-mute : curve_gain manual_curve_mute_db ≡ plus_zero
unfolding curve_gain of_bits le lt
curve-mute = refl

pub curve-six : curve_gain (fin false 3 (pos 1)) ≡ one
unfolding curve_gain minimum of_bits le lt is_nan E2 power_of power_at moved interp power_table odd count_trailing_zeros div mul round size span climb units
curve-six = refl

-- "a NaN in the drawn curve now mutes its bin, gain 0"
pub curve-nan : curve_gain nan ≡ plus_zero
unfolding curve_gain of_bits le lt
curve-nan = refl

is-nan : (x : Float) → T (is_nan x) → x ≡ nan
unfolding is_nan
is-nan nan h = refl
is-nan (inf s) h = absurd h
is-nan (fin s m e) h = absurd h

pub manual-nan :
    (curve : List Float) (bin size : ℕ) → T (is_nan (get_or curve (curve_point bin size) nan))
    → manual_gain curve bin size ≡ plus_zero
unfolding manual_gain
manual-nan curve bin size h = rw (is-nan (get_or curve (curve_point bin size) nan) h) curve-nan

-- ---- the range
at-most-zero : (db : Float) → T (fits binary32 db) → T (le (minimum db zero) plus_zero)
unfolding fits le
at-most-zero nan h = rw (minimum-nan-first, zero_is) tt
at-most-zero (inf s) h = rw (minimum-smaller binary32 (inf s) zero tt, zero_is) (order.smaller-right binary32 (inf s) plus_zero tt tt)
at-most-zero (fin s m e) h = rw (minimum-smaller binary32 (fin s m e) zero h, zero_is) (order.smaller-right binary32 (fin s m e) plus_zero h tt)

chosen : (b : Bool) (g : Float) → T (number binary32 g) → T (le plus_zero g) → T (le g one) → InUnit (cond b zero g)
unfolding of_bits
chosen true g p l h = zero-in-unit
chosen false g p l h = in-unit g p l h

pub curve-gain-in-unit : (db : Float) → T (fits binary32 db) → InUnit (curve_gain db)
unfolding curve_gain
curve-gain-in-unit db h = chosen (muted db) (gain_of (minimum db zero)) (gain-number _) (gain-nonneg _) (gain-at-most-one _ (at-most-zero db h))

-- ---- the order
mute-number : T (number binary32 manual_curve_mute_db)
unfolding of_bits fits
mute-number = tt

limited-mono : (a b : Float) → T (number binary32 a) → T (number binary32 b) → T (le a b) → T (le (minimum a zero) (minimum b zero))
unfolding fits le
limited-mono a b p q h =
    rw (minimum-smaller binary32 a zero p, minimum-smaller binary32 b zero q, zero_is) (order.smaller-mono binary32 a b plus_zero plus_zero p q tt tt h tt)

ordered :
    (s t : Bool) (g k : Float) → (T t → T s) → T (le plus_zero k) → (T (not s) → T (le g k))
    → T (le (cond s zero g) (cond t zero k))
unfolding of_bits le
ordered true true g k i l h = tt
ordered true false g k i l h = l
ordered false true g k i l h = absurd (i tt)
ordered false false g k i l h = h tt

-- above -144
abbrev Open : Float → Type 0
Open x = T (lt manual_curve_mute_db x)

no-nan-open : (x : Float) → Open x → T (not (is_nan x))
unfolding of_bits lt is_nan
no-nan-open nan o = absurd o
no-nan-open (inf s) o = tt
no-nan-open (fin s m e) o = tt

twice-not : (c : Bool) → T (not (not c)) → T c
twice-not true t = tt
twice-not false t = t

-- b is at or above a, where a is a number; where a is a NaN, b may be anything
module _ (a b : Float) (p : T (fits binary32 a)) (q : T (fits binary32 b))
    (h : T (not (is_nan a)) → T (le a b)) where
  -- where a is open, both are numbers
  record Numbers : Type 0 where
    first : T (number binary32 a)
    second : T (number binary32 b)
    up : T (le a b)

  numbers : Open a → Numbers
  numbers o =
      let n = no-nan-open a o in
      record {
        first = order.fits-number binary32 a p n;
        second = le_right binary32 a b q (h n);
        up = h n;
      }

  stays_open : Open a → Open b
  stays_open o =
      let n = numbers o in
      lt-of-lt-of-le-f binary32 manual_curve_mute_db a b mute-number n.first n.second o
      n.up

  open-rises : Open a → T (le (gain_of (minimum a zero)) (gain_of (minimum b zero)))
  open-rises o =
      let n = numbers o in
      gain-never-falls _ _ (limited-mono a b n.first n.second n.up)

  pub curve-gain-never-falls : T (le (curve_gain a) (curve_gain b))
  unfolding curve_gain
  curve-gain-never-falls =
      ordered (muted a) (muted b) (gain_of (minimum a zero)) (gain_of (minimum b zero))
      (λ (m : T (muted b)). not_T (lt manual_curve_mute_db a)
      (λ (o : Open a). T_not (lt manual_curve_mute_db b) m (stays_open o)))
      (gain-nonneg _)
      (λ (m : T (not (muted a))). open-rises (twice-not (lt manual_curve_mute_db a) m))
