-- A maximum of three opennesses is the same however they are grouped, to the bit. So a run of joins
-- from any openness gives the greater of that and of what the run gives from 0. Assumes nothing.
use mathlib.Core.Path.{◌≡◌, refl, sym, ap, ◌∙◌, subst}
use mathlib.Core.Bool.{Bool, true, false, not, cond}
use mathlib.Core.List.{[], ◌∷◌}
use lib.Dec.{T}
use lib.Ieee.{Float, binary32, le, lt}
use Rattle.lists.specs.Folds.{fold}
use Rattle.lists.specs.Totals.{All}
use Rattle.float_laws.specs.Order.{lt→le-f, not-lt-f}
use Rattle.float32.specs.Order.{maximum}
use Rattle.float32.specs.Remainder.{zero}
use Rattle.lobe_joins.proofs.Maxima.{Openness, nothing-open, is_number, zero-least, le_join}
use Rattle.lobe_joins.proofs.Maxima.{keeps, second-under}
use Rattle.lobe_joins.proofs.Maxima.{Join, FitWhere, join_where, fold-join}
use Rattle.lobe_joins.proofs.Highest.{keeps-higher, takes-higher, either_order}

pub with-zero : {s : Float} → Openness s → maximum s zero ≡ s
with-zero u = keeps-higher u nothing-open (zero-least u)

pub grouped :
    {h y z : Float} → Openness h → Openness y → Openness z
    → maximum (maximum h y) z ≡ maximum h (maximum y z)
grouped {h} {y} {z} u v w = go (lt y z) refl
  where
    go : (b : Bool) → lt y z ≡ b → maximum (maximum h y) z ≡ maximum h (maximum y z)
    go true e =
        let p : T (lt y z) = subst T (sym e) tt in
        let l : T (le y z) = lt→le-f binary32 y z (is_number v) (is_number w) p in
        either_order u v w
        ∙ keeps-higher (keeps u w) v (le_join v w (keeps u w) l (second-under u w))
        ∙ ap (maximum h) (sym (takes-higher v p))
    go false e =
        let n = subst (λ (b : Bool). T (not b)) (sym e) tt in
        let l : T (le z y) = not-lt-f binary32 y z (is_number v) (is_number w) n in
        keeps-higher (keeps u v) w (le_join w v (keeps u v) l (second-under u v))
        ∙ ap (maximum h) (sym (keeps-higher v w l))

-- what a step gives from an openness is the greater of that and of what it gives from 0
abbrev pub ByMaximum : {A : Type 0} → (A → Type 0) → (Float → A → Float) → Type 0
ByMaximum {A} Fit step =
    (s : Float) (x : A) → Fit x → Openness s → step s x ≡ maximum s (step zero x)

module _ {A : Type 0} (there : A → Bool) (opens : A → Float) where
  pub where-by-maximum : ByMaximum (FitWhere there opens) (join_where there opens)
  where-by-maximum s x f u = go (there x) f
    where
      go :
          (b : Bool) → (T b → Openness (opens x))
          → cond b (maximum s (opens x)) s ≡ maximum s (cond b (maximum zero (opens x)) zero)
      go true f =
          ap (λ (t : Float). maximum t (opens x)) (sym (with-zero u))
          ∙ grouped u nothing-open (f tt)
      go false f = sym (with-zero u)

module _ {A : Type 0} {Fit : A → Type 0} {Below : A → Float → Type 0} {step : Float → A → Float}
    (j : Join Fit Below step) (each : ByMaximum Fit step) where
  pub fold-by-maximum : ByMaximum (All Fit) (fold step)
  unfolding fold
  fold-by-maximum s [] f u = sym (with-zero u)
  fold-by-maximum s (x ∷ xs) f u =
      let v = j.keeps s x f.0 u in
      let w = j.keeps zero x f.0 nothing-open in
      let r = (fold-join j).keeps zero xs f.1 nothing-open in
      fold-by-maximum (step s x) xs f.1 v
      ∙ ap (λ (t : Float). maximum t (fold step zero xs)) (each s x f.0 u)
      ∙ grouped u w r
      ∙ ap (maximum s) (sym (fold-by-maximum (step zero x) xs f.1 w))
