-- Two floats are within limits where the lesser of them is not below the low end and the greater is
-- not above the high end. A NaN is the lesser or the greater of its pair, and so fails one of the
-- two comparisons. Assumes nothing.
use mathlib.Core.Path.{◌≡◌}
use mathlib.Core.Bool.{Bool, true, false, not, cond, ◌&&◌}
use lib.Dec.{T}
use lib.Ieee.{Float, Format, fits, lt, le}
use lib.Ieee.Fits.{and_i, and_l, and_r}
use Rattle.float_laws.specs.Units.{number}
use Rattle.float_laws.specs.Order.{le_left, le_right, le-trans-f, lt→le-f, not-lt-f}
use Rattle.float32.specs.Order.{within}
use Rattle.float32.proofs.Fields.{same_test}
use Rattle.float32.proofs.Limits.{within_low, within-high}

module _ (f : Format) (lo hi : Float) (l : T (fits f lo)) (h : T (fits f hi)) where
  -- a is the lesser of the two where both are numbers, and the comparisons say that both are
  in_order : (a b : Float) → T (fits f a) → T (fits f b) → (T (number f a) → T (number f b) → T (le a b)) → T (le lo a) → T (le b hi)
      → T (within lo hi a) × T (within lo hi b)
  unfolding within
  in_order a b p q order low high =
      let na : T (number f a) = le_right f lo a p low in
      let nb : T (number f b) = le_left f b hi q high in
      let ab : T (le a b) = order na nb in (
        and_i (le lo a) (le a hi) low (le-trans-f f a b hi na nb (le_right f b hi h high) ab high),
        and_i (le lo b) (le b hi) (le-trans-f f lo a b (le_left f lo a l low) na nb low ab) high,
      )

  module _ (x y : Float) (p : T (fits f x)) (q : T (fits f y)) where
    pub pair-within : (le lo (cond (lt x y) x y) && le (cond (lt x y) y x) hi) ≡ (within lo hi x && within lo hi y)
    pair-within = go (lt x y) (λ t m n. lt→le-f f x y m n t) (λ t m n. not-lt-f f x y n m t)
      where
        both : T (within lo hi x) × T (within lo hi y) → T (within lo hi x && within lo hi y)
        both w = and_i (within lo hi x) (within lo hi y) w.0 w.1

        first : T (within lo hi x && within lo hi y) → T (within lo hi x)
        first = and_l (within lo hi x) (within lo hi y)

        second : T (within lo hi x && within lo hi y) → T (within lo hi y)
        second = and_r (within lo hi x) (within lo hi y)

        go : (b : Bool) → (T b → T (number f x) → T (number f y) → T (le x y)) → (T (not b) → T (number f y) → T (number f x) → T (le y x))
            → (le lo (cond b x y) && le (cond b y x) hi) ≡ (within lo hi x && within lo hi y)
        go true below above =
            same_test (le lo x && le y hi) (within lo hi x && within lo hi y)
            (λ t. both (in_order x y p q (below tt) (and_l (le lo x) (le y hi) t) (and_r (le lo x) (le y hi) t)))
            (λ t. and_i (le lo x) (le y hi) (within_low lo hi x (first t)) (within-high lo hi y (second t)))
        go false below above =
            same_test (le lo y && le x hi) (within lo hi x && within lo hi y)
            (λ t. let w = in_order y x q p (above tt) (and_l (le lo y) (le x hi) t) (and_r (le lo y) (le x hi) t) in both (w.1, w.0))
            (λ t. and_i (le lo y) (le x hi) (within_low lo hi y (second t)) (within-high lo hi x (first t)))
