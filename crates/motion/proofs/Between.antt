-- Chains of f32 operations by their ends: where each operand lies between two finite values, so
-- does the result, since rounding keeps the order. The ends are constants, and are computed.
-- Assumes nothing.
use mathlib.Core.Path.{subst}
use mathlib.Core.Bool.{not}
use lib.Dec.{T}
use lib.Ieee.{Float, nan, inf, fin, binary32, is_nan, fits, le, add, sub, mul, div}
use lib.Ieee.Positive.{positive}
use Rattle.float_laws.specs.Units.{number, real, real-number}
use Rattle.float_laws.specs.Order.{le-trans-f}
use Rattle.float_laws.specs.Round.{plus_zero}
use Rattle.float_laws.specs.Ops.{mul-comm-f}
use Rattle.float_laws.specs.Mono.{add-number, add-mono, sub_number, sub-mono, mul-number, mul_mono}
use Rattle.float_laws.specs.Inf.{mul-by-number, mul-by, div-by-number, div-by}
use Rattle.float_laws.specs.Bounds.{one, real-between}
use Rattle.float_laws.specs.Rise.{Upto, upto-level}

pub record Between (lo hi x : Float) : Type 0 where
  pub from : T (real binary32 lo)
  pub to : T (real binary32 hi)
  pub is_real : T (real binary32 x)
  pub low : T (le lo x)
  pub high : T (le x hi)

pub between : (lo hi x : Float) → T (number binary32 x) → T (real binary32 lo) → T (real binary32 hi) → T (le lo x) → T (le x hi) → Between lo hi x
between lo hi x n p q h k = record { from = p; to = q; is_real = real-between binary32 lo x hi n p q h k; low = h; high = k }

pub known : (x y : Float) → T (le x y) → T (not (is_nan x))
unfolding le is_nan
known nan y h = h
known (inf s) y h = tt
known (fin s m e) y h = tt

-- wider ends
pub wider : {lo hi x : Float} (lo' hi' : Float) → T (real binary32 lo') → T (real binary32 hi') → T (le lo' lo) → T (le hi hi') → Between lo hi x → Between lo' hi' x
wider {lo} {hi} {x} lo' hi' p q h k b =
    let n = real-number binary32 x b.is_real in
    between lo' hi' x n p q
    (le-trans-f binary32 lo' lo x (real-number binary32 lo' p) (real-number binary32 lo b.from) n h b.low)
    (le-trans-f binary32 x hi hi' n (real-number binary32 hi b.to) (real-number binary32 hi' q) b.high k)

module _ {lo hi x lo' hi' y : Float} (a : Between lo hi x) (b : Between lo' hi' y) where
  pub between-add : T (real binary32 (add binary32 lo lo')) → T (real binary32 (add binary32 hi hi')) → Between (add binary32 lo lo') (add binary32 hi hi') (add binary32 x y)
  between-add p q =
      between (add binary32 lo lo') (add binary32 hi hi') (add binary32 x y) (add-number binary32 x y a.is_real b.is_real) p q
      (add-mono binary32 lo x lo' y a.from a.is_real b.from b.is_real a.low b.low)
      (add-mono binary32 x hi y hi' a.is_real a.to b.is_real b.to a.high b.high)

  pub between-sub : T (real binary32 (sub binary32 lo hi')) → T (real binary32 (sub binary32 hi lo')) → Between (sub binary32 lo hi') (sub binary32 hi lo') (sub binary32 x y)
  between-sub p q =
      between (sub binary32 lo hi') (sub binary32 hi lo') (sub binary32 x y) (sub_number binary32 x y a.is_real b.is_real) p q
      (sub-mono binary32 lo x hi' y a.from a.is_real b.to b.is_real a.low b.high)
      (sub-mono binary32 x hi y lo' a.is_real a.to b.is_real b.from a.high b.low)

  -- of two that are not negative
  pub between-mul : T (le plus_zero lo) → T (le plus_zero lo') → T (real binary32 (mul binary32 lo lo')) → T (real binary32 (mul binary32 hi hi'))
      → Between (mul binary32 lo lo') (mul binary32 hi hi') (mul binary32 x y)
  between-mul z z' p q =
      let zero_number : T (number binary32 plus_zero) = real-number binary32 plus_zero (unfold fits in tt) in
      let X = le-trans-f binary32 plus_zero lo x zero_number (real-number binary32 lo a.from) (real-number binary32 x a.is_real) z a.low in
      let Y = le-trans-f binary32 plus_zero lo' y zero_number (real-number binary32 lo' b.from) (real-number binary32 y b.is_real) z' b.low in
      between (mul binary32 lo lo') (mul binary32 hi hi') (mul binary32 x y) (mul-number binary32 x y a.is_real b.is_real) p q
      (mul_mono binary32 lo x lo' y a.from a.is_real b.from b.is_real z z' a.low b.low)
      (mul_mono binary32 x hi y hi' a.is_real a.to b.is_real b.to X Y a.high b.high)

-- a constant above zero as a factor, and as a divisor
module _ (k : Float) (above : T (positive k)) {lo hi x : Float} (a : Between lo hi x) where
  pub between-times : T (real binary32 (mul binary32 lo k)) → T (real binary32 (mul binary32 hi k)) → Between (mul binary32 lo k) (mul binary32 hi k) (mul binary32 k x)
  between-times p q =
      subst (Between (mul binary32 lo k) (mul binary32 hi k)) (mul-comm-f binary32 x k)
      (between (mul binary32 lo k) (mul binary32 hi k) (mul binary32 x k) (mul-by-number binary32 k above x (known x hi a.high)) p q
      (mul-by binary32 k above lo x a.low) (mul-by binary32 k above x hi a.high))

  pub between-over : T (real binary32 (div binary32 lo k)) → T (real binary32 (div binary32 hi k)) → Between (div binary32 lo k) (div binary32 hi k) (div binary32 x k)
  between-over p q =
      between (div binary32 lo k) (div binary32 hi k) (div binary32 x k) (div-by-number binary32 k above x (known x hi a.high)) p q
      (div-by binary32 k above lo x a.low) (div-by binary32 k above x hi a.high)

-- between 0 and 1
pub level : {x : Float} → Between plus_zero one x → Upto binary32 0 x
level {x} b = upto-level binary32 x b.is_real b.low b.high
