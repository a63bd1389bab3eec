-- No bin of a block is nearer to a centre than the least distance of the block: differences, the
-- product with 1,200 and the quotient by the width are rounded, and rounding keeps the order and
-- passes the sign through. Assumes nothing.
use mathlib.Core.Path.{◌≡◌, refl, sym, ap, ◌∙◌, subst}
use mathlib.Core.Bool.{Bool, true, false}
use Prim.Native.Nat.{ℕ, ◌+◌, ◌<◌}
use native.Mathlib.Nat.{le_trans, le_of_eq}
use lib.Dec.{T}
use lib.Ieee.{Float, nan, inf, fin, Format, binary32, fits, le, lt, neg, sub, mul, div, round, unlike, of_bits}
use lib.Ieee.Positive.{positive}
use lib.Ieee.Scale.{overflow}
use Rattle.float_laws.specs.Units.{mag, number, real, sign, keyed, keyed-le, key, real-number, key→le}
use Rattle.float_laws.specs.Order as order
use Rattle.float_laws.specs.Order.{le-refl-f, le-trans-f, eq→le-f, larger-number, larger-right, larger-least}
use Rattle.float_laws.specs.Round.{plus_zero, real-zero}
use Rattle.float_laws.specs.Ops.{mul-comm-f, mul-neg, neg-div, div-round}
use Rattle.float_laws.specs.Mono.{sub-mono, sub_number, sub-swap, number-neg, mul-nonneg, above_zero}
use Rattle.float_laws.specs.Bounds.{round-nonneg}
use Rattle.float_laws.specs.Inf.{mul-by, mul-by-number, div-by, div-by-number, positive-above}
use Rattle.float32.specs.Order.{maximum, magnitude}
use Rattle.float32.specs.Remainder.{zero}
use Rattle.float32.proofs.Magnitude.{magnitude-clear, magnitude-size, magnitude-neg, magnitude-is-number, magnitude-nonneg}
use Rattle.float32.proofs.OrderAgrees.{maximum-larger}
use Rattle.gaussian.proofs.Entries.{no_nan}
use Rattle.lobes.specs.Grid.{cents_per_octave}
use Rattle.lobes.specs.Distance.{in_widths}
use Rattle.lobe_bounds.specs.Bound.{least_distance}
use Rattle.lobes.proofs.NoteLevels.{zero_is}

-- ---- magnitudes
module _ (f : Format) where
  key-magnitude : (x : Float) → key f (magnitude x) ≡ overflow f + mag f x
  key-magnitude x = ap (λ (s : Bool). keyed (overflow f) s (mag f (magnitude x))) (magnitude-clear x) ∙ ap (λ (m : ℕ). overflow f + m) (magnitude-size f x)

  le-magnitude : (x : Float) → T (number f x) → T (le x (magnitude x))
  le-magnitude x p = key→le f x (magnitude x) p (magnitude-is-number f x p) (le_trans (keyed-le (overflow f) (sign x) (mag f x)) (le_of_eq (sym (key-magnitude x))))

  neg-le-magnitude : (x : Float) → T (number f x) → T (le (neg x) (magnitude x))
  neg-le-magnitude x p = subst (λ (y : Float). T (le (neg x) y)) (magnitude-neg x) (le-magnitude (neg x) (number-neg f x p))

pub zero_number : T (number binary32 plus_zero)
zero_number = real-number binary32 plus_zero (real-zero binary32 false)

pub max-zero : (x : Float) → T (number binary32 x) → maximum x zero ≡ order.larger x plus_zero
max-zero x p = rw zero_is (maximum-larger binary32 x plus_zero p)

-- ---- the octaves from a centre to a bin of the block are no fewer than the least
pub record InBlock (low high t : Float) : Type 0 where
  pub low-real : T (real binary32 low)
  pub high-real : T (real binary32 high)
  pub is_real : T (real binary32 t)
  pub from : T (le low t)
  pub to : T (le t high)

module _ (low high t c : Float) (h : InBlock low high t) (p : T (real binary32 c)) where
  abbrev up : Float
  up = sub binary32 low c

  abbrev down : Float
  down = sub binary32 c high

  abbrev octaves : Float
  octaves = sub binary32 t c

  abbrev least : Float
  least = maximum (maximum up down) zero

  up-number : T (number binary32 up)
  up-number = sub_number binary32 low c h.low-real p

  down-number : T (number binary32 down)
  down-number = sub_number binary32 c high p h.high-real

  octaves-number : T (number binary32 octaves)
  octaves-number = sub_number binary32 t c h.is_real p

  c-self : T (le c c)
  c-self = le-refl-f binary32 c (real-number binary32 c p)

  up_le : T (le up (magnitude octaves))
  up_le =
      le-trans-f binary32 up octaves (magnitude octaves) up-number octaves-number (magnitude-is-number binary32 octaves octaves-number)
      (sub-mono binary32 low t c c h.low-real h.is_real p p h.from c-self) (le-magnitude binary32 octaves octaves-number)

  down_le : T (le down (magnitude octaves))
  down_le =
      let back = sub binary32 c t in
      let n = sub_number binary32 c t p h.is_real in
      let m = number-neg binary32 octaves octaves-number in
      let a = sub-mono binary32 c c high t p p h.high-real h.is_real c-self h.to in
      let b = eq→le-f binary32 back (neg octaves) n m (sub-swap binary32 c t p h.is_real) in
      le-trans-f binary32 down back (magnitude octaves) down-number n (magnitude-is-number binary32 octaves octaves-number) a
      (le-trans-f binary32 back (neg octaves) (magnitude octaves) n m (magnitude-is-number binary32 octaves octaves-number) b (neg-le-magnitude binary32 octaves octaves-number))

  least-is : least ≡ order.larger (order.larger up down) plus_zero
  least-is = ap (λ (x : Float). maximum x zero) (maximum-larger binary32 up down up-number) ∙ max-zero (order.larger up down) (larger-number binary32 up down up-number down-number)

  least-number : T (number binary32 least)
  least-number = rw least-is (larger-number binary32 (order.larger up down) plus_zero (larger-number binary32 up down up-number down-number) zero_number)

  least-low : T (le plus_zero least)
  least-low = rw least-is (larger-right binary32 (order.larger up down) plus_zero (larger-number binary32 up down up-number down-number) zero_number)

  least-le : T (le least (magnitude octaves))
  least-le =
      let m = magnitude-is-number binary32 octaves octaves-number in
      rw least-is
      (larger-least binary32 (order.larger up down) plus_zero (larger-number binary32 up down up-number down-number) zero_number (magnitude octaves) m
      (larger-least binary32 up down up-number down-number (magnitude octaves) m up_le down_le) (magnitude-nonneg binary32 octaves octaves-number))

-- ---- in widths
cents-positive : T (positive cents_per_octave) × T (real binary32 cents_per_octave) × T (le plus_zero cents_per_octave)
unfolding of_bits fits le lt
cents-positive = (tt, tt, tt)

-- a quotient of the negative is the negative one, of infinities too
infinite-over : (s : Bool) (w : Float) → T (real binary32 w) → div binary32 (neg (inf s)) w ≡ neg (div binary32 (inf s) w)
unfolding div neg
infinite-over s nan r = absurd r
infinite-over s (inf t) r = absurd r
infinite-over true (fin true n d) r = refl
infinite-over true (fin false n d) r = refl
infinite-over false (fin true n d) r = refl
infinite-over false (fin false n d) r = refl

module _ (width : Float) (p : T (real binary32 width)) (above : T (lt plus_zero width)) where
  abbrev cents : Float → Float
  cents x = mul binary32 cents_per_octave x

  cents-up : (x y : Float) → T (le x y) → T (le (cents x) (cents y))
  cents-up x y h = rw (mul-comm-f binary32 cents_per_octave x, mul-comm-f binary32 cents_per_octave y) (mul-by binary32 cents_per_octave cents-positive.0 x y h)

  cents-number : (x : Float) → T (number binary32 x) → T (number binary32 (cents x))
  cents-number x n = rw (mul-comm-f binary32 cents_per_octave x) (mul-by-number binary32 cents_per_octave cents-positive.0 x (no_nan binary32 x n))

  widths-up : (x y : Float) → T (le x y) → T (le (in_widths width x) (in_widths width y))
  widths-up x y h = div-by binary32 width (positive-above binary32 width p above) (cents x) (cents y) (cents-up x y h)

  widths-number : (x : Float) → T (number binary32 x) → T (number binary32 (in_widths width x))
  widths-number x n = div-by-number binary32 width (positive-above binary32 width p above) (cents x) (no_nan binary32 (cents x) (cents-number x n))

  wide : 0 < mag binary32 width
  wide = (above_zero binary32 width (real-number binary32 width p) above).1

  widths-low : (x : Float) → T (number binary32 x) → T (le plus_zero x) → T (le plus_zero (in_widths width x))
  widths-low x n h =
      let z = in_widths width plus_zero in
      le-trans-f binary32 plus_zero z (in_widths width x) zero_number (widths-number plus_zero zero_number) (widths-number x n) from_zero (widths-up plus_zero x h)
    where
      none : T (le plus_zero (div binary32 plus_zero width))
      none =
          subst (λ (x : Float). T (le plus_zero x))
          (sym (div-round binary32 plus_zero width (real-zero binary32 false) p wide ∙ ap (λ (s : Bool). round binary32 (unlike false s) (mag binary32 plus_zero) (mag binary32 width)) (above_zero binary32 width (real-number binary32 width p) above).0))
          (round-nonneg binary32 (mag binary32 plus_zero) (mag binary32 width))

      no-cents : T (le plus_zero (cents plus_zero))
      no-cents = mul-nonneg binary32 cents_per_octave plus_zero cents-positive.1 (real-zero binary32 false) cents-positive.2 (le-refl-f binary32 plus_zero zero_number)

      from_zero : T (le plus_zero (in_widths width plus_zero))
      from_zero =
          le-trans-f binary32 plus_zero (div binary32 plus_zero width) (in_widths width plus_zero) zero_number
          (div-by-number binary32 width (positive-above binary32 width p above) plus_zero (no_nan binary32 plus_zero zero_number)) (widths-number plus_zero zero_number) none
          (div-by binary32 width (positive-above binary32 width p above) plus_zero (cents plus_zero) no-cents)

  over-neg : (x : Float) → T (number binary32 x) → div binary32 (neg x) width ≡ neg (div binary32 x width)
  over-neg nan n = absurd n
  over-neg (inf s) n = infinite-over s width p
  over-neg (fin s m e) n = neg-div binary32 (fin s m e) width n p wide

  widths-neg : (x : Float) → T (number binary32 x) → in_widths width (neg x) ≡ neg (in_widths width x)
  widths-neg x n = ap (λ (y : Float). div binary32 y width) (mul-neg binary32 cents_per_octave x) ∙ over-neg (cents x) (cents-number x n)

  size-of-neg : (x : Float) → T (number binary32 x) → magnitude (in_widths width (neg x)) ≡ magnitude (in_widths width x)
  size-of-neg x n = ap magnitude (widths-neg x n) ∙ magnitude-neg (in_widths width x)

  size-of-size : (x : Float) → T (number binary32 x) → magnitude (in_widths width (magnitude x)) ≡ magnitude (in_widths width x)
  unfolding magnitude neg
  size-of-size nan n = absurd n
  size-of-size (inf false) n = refl
  size-of-size (inf true) n = size-of-neg (inf true) n
  size-of-size (fin false m e) n = refl
  size-of-size (fin true m e) n = size-of-neg (fin true m e) n

-- ---- the least distance of a block, and the distance of a bin in it
module _ (width : Float) (w : T (real binary32 width)) (above : T (lt plus_zero width)) (low high t c : Float) (h : InBlock low high t) (p : T (real binary32 c)) where
  pub least-distance-number : T (number binary32 (least_distance width c low high))
  least-distance-number = widths-number width w above (least low high t c h p) (least-number low high t c h p)

  pub least-distance-low : T (le plus_zero (least_distance width c low high))
  least-distance-low = widths-low width w above (least low high t c h p) (least-number low high t c h p) (least-low low high t c h p)

  pub distance-number : T (number binary32 (in_widths width (sub binary32 t c)))
  distance-number = widths-number width w above (sub binary32 t c) (octaves-number low high t c h p)

  pub none-nearer : T (le (least_distance width c low high) (magnitude (in_widths width (sub binary32 t c))))
  none-nearer =
      let d = sub binary32 t c in
      let n = octaves-number low high t c h p in
      let m = magnitude-is-number binary32 d n in
      let k = widths-number width w above (magnitude d) m in
      subst (λ (x : Float). T (le (least_distance width c low high) x)) (size-of-size width w above d n)
      (le-trans-f binary32 (least_distance width c low high) (in_widths width (magnitude d)) (magnitude (in_widths width (magnitude d))) least-distance-number k
      (magnitude-is-number binary32 (in_widths width (magnitude d)) k) (widths-up width w above (least low high t c h p) (magnitude d) (least-le low high t c h p))
      (le-magnitude binary32 (in_widths width (magnitude d)) k))
