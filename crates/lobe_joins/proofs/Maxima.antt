-- Joining by maximum, as a law of its own: a step takes what a bin holds and one thing more, and
-- gives the least number that is above both. `Below x z` says that what x opens is at most z. A run
-- of such steps over a list is such a step again, and so its result does not depend on the order.
-- Assumes nothing.
use mathlib.Core.Bool.{Bool, true, false, cond}
use mathlib.Core.List.{List, [], ◌∷◌}
use lib.Dec.{T, lit≤}
use lib.Ieee.{Float, binary32, fits, le, of_bits}
use Rattle.lists.specs.Folds.{fold}
use Rattle.lists.specs.Totals.{All}
use Rattle.float_laws.specs.Units.{mag, number, real-number}
use Rattle.float_laws.specs.Order.{le-trans-f, le-refl-f, larger-left, larger-right, larger-least}
use Rattle.float_laws.specs.Rise.{Upto, upto-weaken, upto-maximum}
use Rattle.float32.specs.Order.{maximum}
use Rattle.float32.specs.Remainder.{zero}
use Rattle.float32.proofs.OrderAgrees.{maximum-agrees, maximum-larger}
use Rattle.lobes.proofs.NoteLevels.{zero_is}

-- an openness: not negative, and at most 8
abbrev pub Openness : Float → Type 0
Openness o = Upto binary32 3 o

-- nothing is open: 0 is in 0..1, and an openness
pub zero-unit : Upto binary32 0 zero
unfolding of_bits fits le mag
zero-unit = record { is_real = tt; low = tt; high = lit≤ tt }

pub nothing-open : Openness zero
nothing-open = upto-weaken binary32 (lit≤ tt) zero-unit

pub is_number : {o : Float} → Openness o → T (number binary32 o)
is_number {o} u = real-number binary32 o u.is_real

pub zero-least : {z : Float} → Openness z → T (le zero z)
zero-least w = rw zero_is w.low

pub le_join : {x y z : Float} → Openness x → Openness y → Openness z → T (le x y) → T (le y z) → T (le x z)
le_join {x} {y} {z} u v w h k = le-trans-f binary32 x y z (is_number u) (is_number v) (is_number w) h k

-- ---- one maximum: an openness, above both, and at most whatever is above both
module _ {s t : Float} (u : Openness s) (v : Openness t) where
  pub keeps : Openness (maximum s t)
  keeps = rw maximum-agrees (upto-maximum binary32 3 s t (lit≤ tt) u v)

  pub first_under : T (le s (maximum s t))
  first_under = rw (maximum-larger binary32 s t (is_number u)) (larger-left binary32 s t (is_number u) (is_number v))

  pub second-under : T (le t (maximum s t))
  second-under = rw (maximum-larger binary32 s t (is_number u)) (larger-right binary32 s t (is_number u) (is_number v))

  pub maximum-least : {z : Float} → Openness z → T (le s z) → T (le t z) → T (le (maximum s t) z)
  maximum-least {z} w h k = rw (maximum-larger binary32 s t (is_number u)) (larger-least binary32 s t (is_number u) (is_number v) z (is_number w) h k)

-- `Fit x`: what x opens is an openness
pub record Join {A : Type 0} (Fit : A → Type 0) (Below : A → Float → Type 0) (step : Float → A → Float) : Type 0 where
  pub keeps : (s : Float) (x : A) → Fit x → Openness s → Openness (step s x)
  pub grows : (s : Float) (x : A) → Fit x → Openness s → T (le s (step s x))
  pub reaches : (s : Float) (x : A) → Fit x → Openness s → Below x (step s x)
  pub least : (s : Float) (x : A) (z : Float) → Fit x → Openness s → Openness z → T (le s z) → Below x z → T (le (step s x) z)
  pub higher : (x : A) (z z' : Float) → Fit x → Openness z → Openness z' → T (le z z') → Below x z → Below x z'

-- ---- one number, where it is there: the step is maximum, or nothing
module _ {A : Type 0} (there : A → Bool) (opens : A → Float) where
  abbrev pub FitWhere : A → Type 0
  FitWhere x = T (there x) → Openness (opens x)

  abbrev pub BelowWhere : A → Float → Type 0
  BelowWhere x z = T (there x) → T (le (opens x) z)

  abbrev pub join_where : Float → A → Float
  join_where s x = cond (there x) (maximum s (opens x)) s

  pub where-join : Join FitWhere BelowWhere join_where
  where-join =
      record {
        keeps = λ s x f u. kept (there x) f u;
        grows = λ s x f u. grown (there x) f u;
        reaches = λ s x f u. reached (there x) f u;
        least = λ s x z f u w h b. lower (there x) f u w h b;
        higher = λ x z z' f w w' h b t. le_join (f t) w w' (b t) h;
      }
    where
      kept : (c : Bool) {s t : Float} → (T c → Openness t) → Openness s → Openness (cond c (maximum s t) s)
      kept true f u = keeps u (f tt)
      kept false f u = u

      grown : (c : Bool) {s t : Float} → (T c → Openness t) → Openness s → T (le s (cond c (maximum s t) s))
      grown true f u = first_under u (f tt)
      grown false {s} f u = le-refl-f binary32 s (is_number u)

      reached : (c : Bool) {s t : Float} → (T c → Openness t) → Openness s → T c → T (le t (cond c (maximum s t) s))
      reached true f u h = second-under u (f tt)
      reached false f u h = absurd h

      lower : (c : Bool) {s t z : Float} → (T c → Openness t) → Openness s → Openness z → T (le s z) → (T c → T (le t z)) → T (le (cond c (maximum s t) s) z)
      lower true f u w h b = maximum-least u (f tt) w h (b tt)
      lower false f u w h b = h

-- ---- a run over a list
module _ {A : Type 0} {Fit : A → Type 0} {Below : A → Float → Type 0} {step : Float → A → Float} (j : Join Fit Below step) where
  abbrev pub AllBelow : List A → Float → Type 0
  AllBelow xs z = All (λ x. Below x z) xs

  run-keeps : (s : Float) (xs : List A) → All Fit xs → Openness s → Openness (fold step s xs)
  unfolding fold
  run-keeps s [] f u = u
  run-keeps s (x ∷ xs) f u = run-keeps (step s x) xs f.1 (j.keeps s x f.0 u)

  run-grows : (s : Float) (xs : List A) → All Fit xs → Openness s → T (le s (fold step s xs))
  unfolding fold
  run-grows s [] f u = le-refl-f binary32 s (is_number u)
  run-grows s (x ∷ xs) f u =
      let v = j.keeps s x f.0 u in
      le_join u v (run-keeps (step s x) xs f.1 v) (j.grows s x f.0 u) (run-grows (step s x) xs f.1 v)

  run-reaches : (s : Float) (xs : List A) → All Fit xs → Openness s → AllBelow xs (fold step s xs)
  unfolding fold
  run-reaches s [] f u = tt
  run-reaches s (x ∷ xs) f u =
      let v = j.keeps s x f.0 u in (
        j.higher x (step s x) (fold step (step s x) xs) f.0 v (run-keeps (step s x) xs f.1 v) (run-grows (step s x) xs f.1 v) (j.reaches s x f.0 u),
        run-reaches (step s x) xs f.1 v,
      )

  run-least : (s : Float) (xs : List A) (z : Float) → All Fit xs → Openness s → Openness z → T (le s z) → AllBelow xs z → T (le (fold step s xs) z)
  unfolding fold
  run-least s [] z f u w h b = h
  run-least s (x ∷ xs) z f u w h b = run-least (step s x) xs z f.1 (j.keeps s x f.0 u) w (j.least s x z f.0 u w h b.0) b.1

  run-higher : (xs : List A) (z z' : Float) → All Fit xs → Openness z → Openness z' → T (le z z') → AllBelow xs z → AllBelow xs z'
  run-higher [] z z' f w w' h b = tt
  run-higher (x ∷ xs) z z' f w w' h b = (j.higher x z z' f.0 w w' h b.0, run-higher xs z z' f.1 w w' h b.1)

  pub fold-join : Join (All Fit) AllBelow (fold step)
  fold-join = record { keeps = run-keeps; grows = run-grows; reaches = run-reaches; least = run-least; higher = run-higher }
