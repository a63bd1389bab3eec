-- What a lobe opens at a bin is never above its bound over a block that has the bin. No bin of the
-- block is nearer than the least distance; squares, the difference from the peak's square, the
-- maximum with 0 and the place in the table keep the order; the bell is never above the entry on
-- its left, and the table never rises; the product with a strength that is not negative and the
-- clamp keep the order. Assumes nothing.
use mathlib.Core.Path.{◌≡◌, refl, ap, ◌∙◌, subst}
use mathlib.Core.Bool.{Bool, true, false, cond}
use mathlib.Core.List.{List}
use Prim.Native.Nat.{ℕ, ◌≤◌, min}
use native.Mathlib.Omega.{arith}
use lib.Dec.{T}
use lib.IntN.{ℤ}
use lib.ListN.{get_or}
use lib.Ieee.{Float, nan, inf, fin, binary32, fits, le, lt, neg, add, sub, mul, of_bits, is_nan}
use lib.Ieee.Fits.{sub-fits, mul-fits}
use Rattle.float_laws.specs.Units.{number, real, real-number}
use Rattle.float_laws.specs.Order as order
use Rattle.float_laws.specs.Order.{le-refl-f, le-trans-f, lt-of-lt-of-le-f, larger-number, larger-right, larger-mono}
use Rattle.float_laws.specs.Round.{plus_zero, real-zero}
use Rattle.float_laws.specs.Ops.{mul-comm-f, mul-neg, neg-neg}
use Rattle.float_laws.specs.Mono.{sub_number, mul-number, mul-nonneg}
use Rattle.float_laws.specs.Inf.{mul-by, sub-mono-inf, mul-mono-inf}
use Rattle.float_laws.specs.Rise.{Upto, Rise, Up, rise-refl, up-scale, up-clamp}
use Rattle.counts.specs.Counts.{floor_count}
use Rattle.float32.specs.Order.{maximum, clamp, magnitude}
use Rattle.float32.specs.Powers.{square}
use Rattle.float32.specs.Remainder.{zero, one}
use Rattle.counts.proofs.CountBounds.{count-never-falls}
use Rattle.float32.proofs.Magnitude.{magnitude-is-number}
use Rattle.float32.proofs.OrderAgrees.{clamp-agrees, maximum-nan-first, maximum-larger}
use Rattle.power.specs.Log.{L2}
use Rattle.power.proofs.LogRange.{L2-real}
use Rattle.gaussian.specs.Table.{gaussian_lut_steps, G}
use Rattle.gaussian.specs.Bell.{gaussian_max_relative_squared, steps_per_square, position, gaussian}
use Rattle.gaussian.proofs.Entries.{G-falls, G-upto}
use Rattle.gaussian.proofs.InUnit.{place-of, left-most, between-at-most, gaussian-in-unit}
use Rattle.scene.specs.declared.MaskConfig.{MaskConfig}
use Rattle.scene.specs.declared.MaskVoice.{MaskVoice}
use Rattle.scene.specs.Voices.{RealVoice}
use Rattle.lobes.specs.declared.Grid.{Grid}
use Rattle.lobes.specs.declared.Lobe.{Lobe}
use Rattle.lobes.specs.Grid.{grid_of}
use Rattle.lobes.specs.Tone.{timbre_rolloff, tone_of}
use Rattle.lobes.specs.Distance.{Logs, lent, in_widths, distance, bell}
use Rattle.lobes.specs.Lobe.{lobe_of, relative_square, opening}
use Rattle.lobe_bounds.specs.Bound.{least_distance, bound_of, Measured}
use Rattle.lobes.proofs.NoteLevels.{zero_is, one-is, note-level-rises}
use Rattle.lobes.proofs.Harmonics.{rolloff-low, rolloff-real, harmonic-gain-unit}
use Rattle.lobe_bounds.proofs.Nearest.{InBlock, zero_number, max-zero, least-distance-number, least-distance-low, distance-number, none-nearer}

-- ---- squares
square-neg : (x : Float) → square (neg x) ≡ square x
square-neg x = mul-neg binary32 (neg x) x ∙ ap neg (mul-comm-f binary32 (neg x) x ∙ mul-neg binary32 x x) ∙ neg-neg (square x)

square-size : (x : Float) → square (magnitude x) ≡ square x
unfolding magnitude neg
square-size nan = refl
square-size (inf false) = refl
square-size (inf true) = square-neg (inf true)
square-size (fin false m e) = refl
square-size (fin true m e) = square-neg (fin true m e)

square-number : (x : Float) → T (number binary32 x) → T (number binary32 (square x))
unfolding mul
square-number nan n = absurd n
square-number (inf true) n = tt
square-number (inf false) n = tt
square-number (fin s m e) n = mul-number binary32 (fin s m e) (fin s m e) n n

square-up : (x y : Float) → T (number binary32 x) → T (number binary32 y) → T (le plus_zero x) → T (le x y) → T (le (square x) (square y))
square-up x y p q l h = mul-mono-inf binary32 x y x y p q p q l l (square-number x p) (square-number y q) h h

square-low : (x : Float) → T (number binary32 x) → T (le plus_zero x) → T (le plus_zero (square x))
square-low x p l =
    le-trans-f binary32 plus_zero (square plus_zero) (square x) zero_number (square-number plus_zero zero_number) (square-number x p)
    (mul-nonneg binary32 plus_zero plus_zero (real-zero binary32 false) (real-zero binary32 false) none none) (square-up plus_zero x zero_number p none l)
  where
    none : T (le plus_zero plus_zero)
    none = le-refl-f binary32 plus_zero zero_number

-- ---- less the peak's square, whatever that is: where the difference is NaN or below 0, it counts
-- as 0
abbrev less : Float → Float → Float
less peak x = maximum (sub binary32 x peak) zero

zero-self : T (le zero zero)
zero-self = rw zero_is (le-refl-f binary32 plus_zero zero_number)

from-zero-number : (d : Float) → T (fits binary32 d) → T (number binary32 (maximum d zero))
unfolding fits
from-zero-number nan f = rw (maximum-nan-first, zero_is) zero_number
from-zero-number (inf s) f = rw (max-zero (inf s) tt) (larger-number binary32 (inf s) plus_zero tt zero_number)
from-zero-number (fin s m e) f = rw (max-zero (fin s m e) f) (larger-number binary32 (fin s m e) plus_zero f zero_number)

less-number : (peak x : Float) → T (number binary32 (less peak x))
less-number peak x = from-zero-number (sub binary32 x peak) (sub-fits binary32 x peak)

less-nan : (x : Float) → less nan x ≡ zero
unfolding sub add neg maximum lt is_nan of_bits
less-nan nan = refl
less-nan (inf s) = refl
less-nan (fin s m e) = refl

less-top : (x : Float) → less (inf false) x ≡ zero
unfolding sub add neg maximum lt is_nan of_bits
less-top nan = refl
less-top (inf true) = refl
less-top (inf false) = refl
less-top (fin s m e) = refl

less-bottom : (x : Float) → T (number binary32 x) → T (le plus_zero x) → less (inf true) x ≡ inf false
unfolding sub add neg maximum lt is_nan of_bits le
less-bottom nan n h = absurd n
less-bottom (inf true) n h = absurd h
less-bottom (inf false) n h = refl
less-bottom (fin s m e) n h = refl

finite-less : (x : Float) (s : Bool) (m : ℕ) (e : ℤ) → T (number binary32 x) → T (real binary32 (fin s m e)) → T (number binary32 (sub binary32 x (fin s m e)))
unfolding sub add neg
finite-less nan s m e n f = absurd n
finite-less (inf t) s m e n f = tt
finite-less (fin t k d) s m e n f = sub_number binary32 (fin t k d) (fin s m e) n f

less-up : (peak : Float) → T (fits binary32 peak) → (x y : Float) → T (number binary32 x) → T (number binary32 y) → T (le plus_zero x) → T (le plus_zero y) → T (le x y) → T (le (less peak x) (less peak y))
unfolding fits
less-up nan f x y p q a b h = rw (less-nan x, less-nan y) zero-self
less-up (inf false) f x y p q a b h = rw (less-top x, less-top y) zero-self
less-up (inf true) f x y p q a b h = rw (less-bottom x p a, less-bottom y q b) (le-refl-f binary32 (inf false) tt)
less-up (fin s m e) f x y p q a b h =
    let peak = fin s m e in
    let u = finite-less x s m e p f in
    let v = finite-less y s m e q f in
    rw (max-zero (sub binary32 x peak) u, max-zero (sub binary32 y peak) v)
    (larger-mono binary32 (sub binary32 x peak) (sub binary32 y peak) plus_zero plus_zero u v zero_number zero_number
    (sub-mono-inf binary32 x y peak peak p q f f u v h (le-refl-f binary32 peak f)) (le-refl-f binary32 plus_zero zero_number))

-- ---- the place in the table
place_up : (x y : Float) → T (number binary32 x) → T (number binary32 y) → T (le x y) → T (le (position x) (position y))
unfolding position clamp of_bits fits le lt
place_up x y p q h =
    let a = order.clamp zero gaussian_max_relative_squared x in
    let b = order.clamp zero gaussian_max_relative_squared y in
    mul-by binary32 steps_per_square tt a b (order.clamp-mono binary32 zero gaussian_max_relative_squared tt tt tt x y p q h)

-- the bell at a place is never above the entry on the left of a place before it
bell-under : (x y : Float) → T (number binary32 x) → T (number binary32 y) → T (le x y) → Rise binary32 0 (gaussian y) (G (min (floor_count (position x)) gaussian_lut_steps))
bell-under x y p q h =
    let place = place-of y q in
    let before = min (floor_count (position x)) gaussian_lut_steps in
    let left = floor_count (position y) in
    let few = left-most (position y) place in
    let order-kept = count-never-falls false (position x) (position y) (place_up x y p q h) in
    let from = gaussian-in-unit y q in
    let to = G-upto before (omega arith) in
    let between = G-upto left few in
    record {
      from = from;
      to = to;
      up =
          le-trans-f binary32 (gaussian y) (G left) (G before) (real-number binary32 (gaussian y) from.is_real) (real-number binary32 (G left) between.is_real) (real-number binary32 (G before) to.is_real)
          (between-at-most (position y) place) (G-falls before left (omega (arith, order-kept)) few);
    }

-- ---- the lobe
clamp-rises : {x y : Float} → Up binary32 x y → Rise binary32 0 (clamp zero one x) (clamp zero one y)
clamp-rises {x} {y} u = rw (zero_is, one-is, clamp-agrees plus_zero _ x, clamp-agrees plus_zero _ y) (up-clamp binary32 u)

held : (s : Float) → T (real binary32 s) → T (le plus_zero s) → Up binary32 s s
held s r l = record { from-real = r; to-real = r; from_low = l; to_low = l; up = le-refl-f binary32 s (real-number binary32 s r) }

entry-in-unit : (strength : Float) (i : ℕ) → T (real binary32 strength) → T (le plus_zero strength) → Upto binary32 0 (clamp zero one (mul binary32 strength (G (min i gaussian_lut_steps))))
entry-in-unit strength i r l = (clamp-rises (up-scale binary32 (held strength r l) (rise-refl binary32 (G-upto (min i gaussian_lut_steps) (omega arith))))).to

-- a bound is in 0..1, whatever it is taken of, where the strength is finite and not negative
pub bound-in-unit : (width strength center peak low high : Float) → T (real binary32 strength) → T (le plus_zero strength) → Upto binary32 0 (bound_of width strength center peak low high)
unfolding bound_of
bound-in-unit width strength center peak low high r l = entry-in-unit strength _ r l

-- what a measured lobe opens is in 0..1
pub opening-in-unit : (grid : Grid) (lobe : Lobe) → Measured grid lobe → (table : List Float) (bin : ℕ) → Upto binary32 0 (opening grid (lent table) lobe bin)
unfolding opening bell relative_square
opening-in-unit grid lobe m table bin =
    (clamp-rises
    (up-scale binary32 (held lobe.strength m.strength-real m.strength-low)
    (rise-refl binary32 (gaussian-in-unit _ (less-number lobe.peak_squared (square (distance grid (lent table) lobe.center bin))))))
    ).to

module _ (grid : Grid) (lobe : Lobe) (m : Measured grid lobe) (table : List Float) (bin : ℕ) (low high : Float) (h : InBlock low high (get_or table bin nan)) where
  abbrev center : Float
  center = L2 lobe.center

  abbrev nearest : Float
  nearest = least_distance grid.width center low high

  abbrev there : Float
  there = in_widths grid.width (sub binary32 (get_or table bin nan) center)

  nearest-number : T (number binary32 nearest)
  nearest-number = least-distance-number grid.width m.width-real m.width_above low high (get_or table bin nan) center h (L2-real lobe.center)

  nearest-low : T (le plus_zero nearest)
  nearest-low = least-distance-low grid.width m.width-real m.width_above low high (get_or table bin nan) center h (L2-real lobe.center)

  there-number : T (number binary32 there)
  there-number = distance-number grid.width m.width-real m.width_above low high (get_or table bin nan) center h (L2-real lobe.center)

  squares-up : T (le (square nearest) (square there))
  squares-up =
      subst (λ (x : Float). T (le (square nearest) x)) (square-size there)
      (square-up nearest (magnitude there) nearest-number (magnitude-is-number binary32 there there-number) nearest-low
      (none-nearer grid.width m.width-real m.width_above low high (get_or table bin nan) center h (L2-real lobe.center)))

  relative-up : T (le (less lobe.peak_squared (square nearest)) (less lobe.peak_squared (square there)))
  relative-up =
      let p = square-number nearest nearest-number in
      let q = square-number there there-number in
      let l = square-low nearest nearest-number nearest-low in
      less-up lobe.peak_squared m.peak-fits (square nearest) (square there) p q l (le-trans-f binary32 plus_zero (square nearest) (square there) zero_number p q l squares-up) squares-up

  under-bound : Rise binary32 0 (opening grid (lent table) lobe bin) (bound_of grid.width lobe.strength center lobe.peak_squared low high)
  unfolding opening bell relative_square distance bound_of
  under-bound =
      clamp-rises
      (up-scale binary32 (held lobe.strength m.strength-real m.strength-low)
      (bell-under (less lobe.peak_squared (square nearest)) (less lobe.peak_squared (square there)) (less-number lobe.peak_squared (square nearest)) (less-number lobe.peak_squared (square there)) relative-up))

  pub opening-bounded : T (le (opening grid (lent table) lobe bin) (bound_of grid.width lobe.strength center lobe.peak_squared low high))
  opening-bounded = under-bound.up

-- ---- a finite setting of the width and accepted voices meet what the bound asks
one-real : T (real binary32 one) × T (lt plus_zero one)
unfolding of_bits fits lt
one-real = (tt, tt)

pub grid-width : (config : MaskConfig) → T (real binary32 config.width_cents) → T (real binary32 (grid_of config).width) × T (lt plus_zero (grid_of config).width)
unfolding grid_of
grid-width config p =
    let x = config.width_cents in
    let n = real-number binary32 x p in
    let o = real-number binary32 one one-real.0 in
    rw (maximum-larger binary32 x one n)
    (of-both (lt x one) x p, lt-of-lt-of-le-f binary32 plus_zero one (order.larger x one) zero_number o (larger-number binary32 x one n o) one-real.1 (larger-right binary32 x one n o))
  where
    of-both : (b : Bool) (x : Float) → T (real binary32 x) → T (real binary32 (cond b one x))
    of-both true x r = one-real.0
    of-both false x r = r

pub lobe-measured : (grid : Grid) (logs : Logs) (voice : MaskVoice) (partial : ℕ) → T (real binary32 grid.width) → T (lt plus_zero grid.width) → T (real binary32 grid.rolloff) → RealVoice voice → 1 ≤ partial → partial ≤ 24
    → Measured grid (lobe_of grid logs (tone_of grid voice) partial)
unfolding lobe_of tone_of
lobe-measured grid logs voice partial w a r u first last =
    let n = real-number binary32 in
    let level =
    note-level-rises voice voice u u (rise-refl binary32 u.level-unit) (le-refl-f binary32 voice.volume_gain (n voice.volume_gain u.volume-real))
    (le-refl-f binary32 voice.pressure (n voice.pressure u.pressure-real)) in
    let gain =
    harmonic-gain-unit partial first last (timbre_rolloff grid.rolloff voice.timbre) (rolloff-real grid.rolloff voice.timbre r u.timbre-real)
    (rolloff-low grid.rolloff voice.timbre r u.timbre-real) in
    let strength = up-scale binary32 level (rise-refl binary32 gain) in
    record { width-real = w; width_above = a; strength-real = strength.to-real; strength-low = strength.to_low; peak-fits = mul-fits binary32 _ _ }
