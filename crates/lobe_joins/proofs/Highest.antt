-- The highest of several openings, and what a bin holds once they are joined to it. A maximum keeps
-- what it holds where the other is not above it, and what is above it is positive, so that equal
-- values are equal bits: so the order of joining does not count, an opening that is not above what
-- a bin holds may be left out, and a gain may be applied once, to the highest. Assumes nothing.
use mathlib.Core.Path.{◌≡◌, refl, sym, ap, ◌∙◌, subst}
use mathlib.Core.Bool.{Bool, true, false, not, cond}
use mathlib.Core.Logic.{◌⊎◌, inl, inr}
use mathlib.Core.List.{List, [], ◌∷◌}
use lib.Dec.{T, lit≤}
use lib.Ieee.{Float, binary32, le, lt, mul, round}
use Rattle.lists.specs.Folds.{fold}
use Rattle.lists.specs.Totals.{All}
use Rattle.float_laws.specs.Units.{real, real-number}
use Rattle.float_laws.specs.Order.{le-trans-f, le-antisymm-f, le-total-f, lt→le-f, not-lt-f, le→not-lt-f, lt-of-le-of-lt-f, lt-of-lt-of-le-f, eq→same}
use Rattle.float_laws.specs.Round.{plus_zero, real-zero}
use Rattle.float_laws.specs.Ops.{mul-comm-f}
use Rattle.float_laws.specs.Mono.{above_zero, mul-number, mul-mono-l, mul-turns-l}
use Rattle.float_laws.specs.Rise.{Upto, upto-weaken, upto-mul, upto-maximum}
use Rattle.float32.specs.Order.{maximum}
use Rattle.float32.specs.Remainder.{zero}
use Rattle.float32.proofs.OrderAgrees.{maximum-agrees, maximum-larger}
use Rattle.lobes.proofs.NoteLevels.{zero_is}
use Rattle.lobe_joins.proofs.Maxima.{Openness, zero-unit, is_number, le_join, keeps, second-under, join_where, FitWhere, BelowWhere, where-join, AllBelow, fold-join}

-- ---- one maximum
pub keeps-higher : {h y : Float} → Openness h → Openness y → T (le y h) → maximum h y ≡ h
keeps-higher {h} {y} u v l = maximum-larger binary32 h y (is_number u) ∙ go (lt h y) (le→not-lt-f binary32 y h (is_number v) (is_number u) l)
  where
    go : (b : Bool) → T (not b) → cond b y h ≡ h
    go true n = absurd n
    go false n = refl

pub takes-higher : {h y : Float} → Openness h → T (lt h y) → maximum h y ≡ y
takes-higher {h} {y} u l = maximum-larger binary32 h y (is_number u) ∙ go (lt h y) l
  where
    go : (b : Bool) → T b → cond b y h ≡ y
    go true n = refl
    go false n = absurd n

-- equal values above an openness are equal bits
one-datum : {h y z : Float} → Openness h → Openness y → Openness z → T (lt h y) → T (le y z) → T (le z y) → y ≡ z
one-datum {h} {y} {z} u v w l a b =
    let m = is_number v in
    let n = is_number w in
    let zeros = real-number binary32 plus_zero (real-zero binary32 false) in
    let p : T (lt plus_zero y) = lt-of-le-of-lt-f binary32 plus_zero h y zeros (is_number u) m u.low l in
    let q : T (lt plus_zero z) = lt-of-lt-of-le-f binary32 plus_zero y z zeros m n p a in
    eq→same binary32 y z m n ((above_zero binary32 y m p).0 ∙ sym (above_zero binary32 z n q).0) (le-antisymm-f binary32 y z m n a b)

-- ---- two
module _ {h y z : Float} (u : Openness h) (v : Openness y) (w : Openness z) where
  higher-later : T (le y z) → maximum (maximum h y) z ≡ maximum h z
  higher-later l = go (lt h y) refl
    where
      last : (b : Bool) → lt y z ≡ b → T (lt h y) → cond b z y ≡ z
      last true e p = refl
      last false e p = one-datum u v w p l (not-lt-f binary32 y z (is_number v) (is_number w) (subst (λ (b : Bool). T (not b)) (sym e) tt))

      go : (b : Bool) → lt h y ≡ b → maximum (maximum h y) z ≡ maximum h z
      go true e =
          let p : T (lt h y) = subst T (sym e) tt in
          ap (λ (x : Float). maximum x z) (takes-higher u p) ∙ maximum-larger binary32 y z (is_number v) ∙ last (lt y z) refl p
          ∙ sym (takes-higher u (lt-of-lt-of-le-f binary32 h y z (is_number u) (is_number v) (is_number w) p l))
      go false e = ap (λ (x : Float). maximum x z) (keeps-higher u v (not-lt-f binary32 h y (is_number u) (is_number v) (subst (λ (b : Bool). T (not b)) (sym e) tt)))

  lower-later : T (le z y) → maximum (maximum h y) z ≡ maximum h y
  lower-later l = keeps-higher (keeps u v) w (le_join w v (keeps u v) l (second-under u v))

module _ {h y z : Float} (u : Openness h) (v : Openness y) (w : Openness z) where
  pub either_order : maximum (maximum h y) z ≡ maximum (maximum h z) y
  either_order = go (le-total-f binary32 y z (is_number v) (is_number w))
    where
      go : T (le y z) ⊎ T (le z y) → maximum (maximum h y) z ≡ maximum (maximum h z) y
      go (inl l) = higher-later u v w l ∙ sym (lower-later u w v l)
      go (inr l) = lower-later u v w l ∙ sym (higher-later u w v l)

-- ---- a gain that is not negative, applied to the higher of two or to each
module _ {h s o gain : Float} (u : Openness h) (v : Upto binary32 0 s) (w : Upto binary32 0 o) (g : Openness gain) where
  gained : {x : Float} → Upto binary32 0 x → Openness (mul binary32 x gain)
  gained {x} p = upto-mul binary32 0 3 x gain (lit≤ tt) p g

  pub gain-once : maximum (maximum h (mul binary32 s gain)) (mul binary32 o gain) ≡ maximum h (mul binary32 (maximum s o) gain)
  gain-once = go (lt s o) refl
    where
      a : Openness s
      a = upto-weaken binary32 (lit≤ tt) v

      b : Openness o
      b = upto-weaken binary32 (lit≤ tt) w

      rises : {x y : Float} → Upto binary32 0 x → Upto binary32 0 y → T (le x y) → T (le (mul binary32 x gain) (mul binary32 y gain))
      rises {x} {y} p q l = mul-mono-l binary32 x y gain p.is_real q.is_real g.is_real g.low l

      go : (c : Bool) → lt s o ≡ c → maximum (maximum h (mul binary32 s gain)) (mul binary32 o gain) ≡ maximum h (mul binary32 (maximum s o) gain)
      go true e =
          let p : T (lt s o) = subst T (sym e) tt in
          higher-later u (gained v) (gained w) (rises v w (lt→le-f binary32 s o (is_number a) (is_number b) p)) ∙ ap (λ (x : Float). maximum h (mul binary32 x gain)) (sym (takes-higher a p))
      go false e =
          let p : T (le o s) = not-lt-f binary32 s o (is_number a) (is_number b) (subst (λ (c : Bool). T (not c)) (sym e) tt) in
          lower-later u (gained v) (gained w) (rises w v p) ∙ ap (λ (x : Float). maximum h (mul binary32 x gain)) (sym (keeps-higher a b p))

no_zero : T (le plus_zero plus_zero)
unfolding le
no_zero = tt

zeros : mul binary32 plus_zero plus_zero ≡ plus_zero
unfolding mul round
zeros = refl

-- nothing under a gain is nothing
pub none-gained : {held gain : Float} → Openness held → Openness gain → maximum held (mul binary32 zero gain) ≡ held
none-gained {held} {gain} u g =
    keeps-higher u (upto-mul binary32 0 3 zero gain (lit≤ tt) zero-unit g)
    (le-trans-f binary32 (mul binary32 zero gain) plus_zero held (mul-number binary32 zero gain zero-unit.is_real g.is_real) (real-number binary32 plus_zero real₀) (is_number u) (rw zero_is least) u.low)
  where
    real₀ : T (real binary32 plus_zero)
    real₀ = real-zero binary32 false

    least : T (le (mul binary32 plus_zero gain) plus_zero)
    least = subst (λ (x : Float). T (le x plus_zero)) (mul-comm-f binary32 gain plus_zero) (subst (λ (x : Float). T (le (mul binary32 gain plus_zero) x)) zeros (mul-turns-l binary32 plus_zero gain plus_zero real₀ g.is_real real₀ no_zero g.low))

-- ---- a list of openings, each where it is there
module _ {A : Type 0} (there : A → Bool) (opens : A → Float) where
  -- each is an opening, from 0 to 1
  abbrev pub InUnit : A → Type 0
  InUnit x = Upto binary32 0 (opens x)

  abbrev highest : Float → A → Float
  highest = join_where there opens

  abbrev with_gain : Float → Float → A → Float
  with_gain gain held x = cond (there x) (maximum held (mul binary32 (opens x) gain)) held

  unit-keeps : {s t : Float} → Upto binary32 0 s → Upto binary32 0 t → Upto binary32 0 (maximum s t)
  unit-keeps {s} {t} u v = rw maximum-agrees (upto-maximum binary32 0 s t (lit≤ tt) u v)

  -- the gain after the maximum
  pub gain-last : {h gain : Float} → Openness h → Openness gain → (s : Float) (xs : List A) → Upto binary32 0 s → All InUnit xs
      → fold (with_gain gain) (maximum h (mul binary32 s gain)) xs ≡ maximum h (mul binary32 (fold highest s xs) gain)
  unfolding fold
  gain-last {h} {gain} u g s [] v all = refl
  gain-last {h} {gain} u g s (x ∷ xs) v all =
      go (there x) (gain-last u g (maximum s (opens x)) xs (unit-keeps v all.0) all.1) (gain-last u g s xs v all.1)
    where
      Goal : Float → Float → Type 0
      Goal t t' = fold (with_gain gain) t xs ≡ maximum h (mul binary32 (fold highest t' xs) gain)

      go : (b : Bool) → Goal (maximum h (mul binary32 (maximum s (opens x)) gain)) (maximum s (opens x)) → Goal (maximum h (mul binary32 s gain)) s
          → Goal (cond b (maximum (maximum h (mul binary32 s gain)) (mul binary32 (opens x) gain)) (maximum h (mul binary32 s gain))) (cond b (maximum s (opens x)) s)
      go true with without = ap (λ (t : Float). fold (with_gain gain) t xs) (gain-once u v all.0 g) ∙ with
      go false with without = without

  -- one more number, joined first or last
  pub first-or-last : (s y : Float) (xs : List A) → Openness s → Openness y → All InUnit xs → fold highest (maximum s y) xs ≡ maximum (fold highest s xs) y
  unfolding fold
  first-or-last s y [] u v all = refl
  first-or-last s y (x ∷ xs) u v all =
      go (there x) (first-or-last (maximum s (opens x)) y xs (keeps u (weak all)) v all.1) (first-or-last s y xs u v all.1)
    where
      weak : All InUnit (x ∷ xs) → Openness (opens x)
      weak all = upto-weaken binary32 (lit≤ tt) all.0

      Goal : Float → Float → Type 0
      Goal t t' = fold highest t xs ≡ maximum (fold highest t' xs) y

      go : (b : Bool) → Goal (maximum (maximum s (opens x)) y) (maximum s (opens x)) → Goal (maximum s y) s
          → Goal (cond b (maximum (maximum s y) (opens x)) (maximum s y)) (cond b (maximum s (opens x)) s)
      go true with without = ap (λ (t : Float). fold highest t xs) (either_order u v (weak all)) ∙ with
      go false with without = without

  fit : (xs : List A) → All InUnit xs → All (FitWhere there opens) xs
  fit [] all = tt
  fit (x ∷ xs) all = ((λ t. upto-weaken binary32 (lit≤ tt) all.0), fit xs all.1)

  pub highest-open : (s : Float) (xs : List A) → Openness s → All InUnit xs → Openness (fold highest s xs)
  highest-open s xs u all = (fold-join (where-join there opens)).keeps s xs (fit xs all) u

  pub highest-in-unit : (s : Float) (xs : List A) → Upto binary32 0 s → All InUnit xs → Upto binary32 0 (fold highest s xs)
  unfolding fold
  highest-in-unit s [] u all = u
  highest-in-unit s (x ∷ xs) u all = highest-in-unit (highest s x) xs (go (there x)) all.1
    where
      go : (b : Bool) → Upto binary32 0 (cond b (maximum s (opens x)) s)
      go true = unit-keeps u all.0
      go false = u

  -- every opening that is there is at most the highest
  pub highest-reaches : (s : Float) (xs : List A) → Openness s → All InUnit xs → AllBelow (where-join there opens) xs (fold highest s xs)
  highest-reaches s xs u all = (fold-join (where-join there opens)).reaches s xs (fit xs all) u

  -- the highest is at most what all are at most
  pub highest-least : (s : Float) (xs : List A) (z : Float) → Openness s → All InUnit xs → Openness z → T (le s z) → AllBelow (where-join there opens) xs z → T (le (fold highest s xs) z)
  highest-least s xs z u all w h b = (fold-join (where-join there opens)).least s xs z (fit xs all) u w h b

  -- one of the list joined first changes nothing
  pub once-before : (s : Float) (x : A) (xs : List A) → Openness s → InUnit x → All InUnit xs → BelowWhere there opens x (fold highest s xs) → fold highest (highest s x) xs ≡ fold highest s xs
  once-before s x xs u v all below = go (there x) below
    where
      w : Openness (opens x)
      w = upto-weaken binary32 (lit≤ tt) v

      go : (b : Bool) → (T b → T (le (opens x) (fold highest s xs))) → fold highest (cond b (maximum s (opens x)) s) xs ≡ fold highest s xs
      go true l = first-or-last s (opens x) xs u w all ∙ keeps-higher (highest-open s xs u all) w (l tt)
      go false l = refl
