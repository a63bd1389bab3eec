-- Arrays changed in place: two passes over the same entries are one, and the greatest is found in
-- one pass. Assumes nothing.
use mathlib.Core.Path.{◌≡◌, refl, sym, ap, ◌∙◌}
use mathlib.Core.Bool.{Bool, true, false, not, cond}
use mathlib.Core.List.{List}
use Prim.Native.Nat.{ℕ, ◌+◌, ◌≤◌, ◌<◌}
use native.Mathlib.Decide.{dec_lt}
use native.Mathlib.Omega.{arith}
use lib.Dec.{T}
use lib.ListN.{length, get_or, set}
use lib.Seq.{ext_get_or}
use lib.Ieee.{Float, nan, binary32, le, lt}
use Rattle.lists.specs.Maps.{map_range, between_in, between-high, length-map_range, get_or-map_range}
use Rattle.lists.specs.Turned.{Turned, turned-read, turned_more}
use Rattle.float_laws.specs.Units.{number}
use Rattle.float_laws.specs.Order.{le-refl-f, le-trans-f, lt→le-f, not-lt-f}
use Rattle.lobe_bounds.specs.Bound.{nearest_place, bound_at, bound_of, Numbers, GreatestAt}

module _ {A : Type 0} where
  -- one more iteration, from what the entry holds now
  pub turned-next : (d : A) {g : ℕ → A → A} {lo : ℕ} {xs₀ xs : List A} {i : ℕ} {v : A} → Turned g lo xs₀ xs i → i < length xs₀ → v ≡ g i (get_or xs i d)
      → Turned g lo xs₀ (set xs i v) (i + 1)
  turned-next d {g} {lo} {xs₀} {xs} {i} t h e = turned_more d t h (e ∙ ap (g i) (turned-read d t h))

  -- two passes over the first n entries
  pub twice : (d : A) (f g : ℕ → A → A) (n : ℕ) (xs : List A) → map_range f 0 n (map_range g 0 n xs) ≡ map_range (λ k x. f k (g k x)) 0 n xs
  twice d f g n xs =
      ext_get_or d (map_range f 0 n (map_range g 0 n xs)) (map_range h 0 n xs)
      (length-map_range f 0 n (map_range g 0 n xs) ∙ length-map_range g 0 n xs ∙ sym (length-map_range h 0 n xs))
      (λ k p. at k (simp (length-map_range f 0 n (map_range g 0 n xs), length-map_range g 0 n xs) at p) (dec_lt k n))
    where
      h : ℕ → A → A
      h k x = f k (g k x)

      at : (k : ℕ) → k < length xs → Dec (k < n) → get_or (map_range f 0 n (map_range g 0 n xs)) k d ≡ get_or (map_range h 0 n xs) k d
      at k p (yes q) =
          get_or-map_range f 0 n (map_range g 0 n xs) k d (rw (length-map_range g 0 n xs) p)
          ∙ between_in f 0 n k (get_or (map_range g 0 n xs) k d) (omega arith) q
          ∙ ap (f k) (get_or-map_range g 0 n xs k d p ∙ between_in g 0 n k (get_or xs k d) (omega arith) q)
          ∙ sym (get_or-map_range h 0 n xs k d p ∙ between_in h 0 n k (get_or xs k d) (omega arith) q)
      at k p (no q) =
          get_or-map_range f 0 n (map_range g 0 n xs) k d (rw (length-map_range g 0 n xs) p)
          ∙ between-high f 0 n k (get_or (map_range g 0 n xs) k d) (omega arith)
          ∙ get_or-map_range g 0 n xs k d p ∙ between-high g 0 n k (get_or xs k d) (omega arith)
          ∙ sym (get_or-map_range h 0 n xs k d p ∙ between-high h 0 n k (get_or xs k d) (omega arith))

-- the two stages of the bounds
pub staged : (width low high : Float) (strengths centers peaks : List Float) (n : ℕ) (xs : List Float) {ys zs : List Float}
    → ys ≡ map_range (λ p held. nearest_place width (get_or centers p nan) (get_or peaks p nan) low high) 0 n xs → zs ≡ map_range (λ p place. bound_at (get_or strengths p nan) place) 0 n ys
    → zs ≡ map_range (λ p held. bound_of width (get_or strengths p nan) (get_or centers p nan) (get_or peaks p nan) low high) 0 n xs
unfolding bound_of
staged width low high strengths centers peaks n xs e f =
    f ∙ ap (map_range (λ p place. bound_at (get_or strengths p nan) place) 0 n) e
    ∙ twice nan (λ p place. bound_at (get_or strengths p nan) place) (λ p held. nearest_place width (get_or centers p nan) (get_or peaks p nan) low high) n xs

-- ---- the greatest
module _ (xs : List Float) where
  pub greatest-first : T (number binary32 (get_or xs 0 nan)) → GreatestAt xs 1 0
  greatest-first n = (omega arith, λ p h. at p (omega arith))
    where
      at : (p : ℕ) → p ≡ 0 → T (le (get_or xs p nan) (get_or xs 0 nan))
      at p e = rw e (le-refl-f binary32 (get_or xs 0 nan) n)

  greatest-next : (count p place : ℕ) → Numbers xs count → p < count → GreatestAt xs p place
      → GreatestAt xs (p + 1) (cond (lt (get_or xs place nan) (get_or xs p nan)) p place)
  greatest-next count p place n h g = go (lt (get_or xs place nan) (get_or xs p nan)) (λ t. t) (λ t. t)
    where
      here : T (number binary32 (get_or xs place nan))
      here = n place (omega (arith, g.0))

      there : T (number binary32 (get_or xs p nan))
      there = n p h

      go : (b : Bool) → (T b → T (lt (get_or xs place nan) (get_or xs p nan))) → (T (not b) → T (not (lt (get_or xs place nan) (get_or xs p nan)))) → GreatestAt xs (p + 1) (cond b p place)
      go true yes_lt no_lt = (omega arith, λ q l. above q (dec_lt q p) l)
        where
          above : (q : ℕ) → Dec (q < p) → q < p + 1 → T (le (get_or xs q nan) (get_or xs p nan))
          above q (yes z) l =
              le-trans-f binary32 (get_or xs q nan) (get_or xs place nan) (get_or xs p nan) (n q (omega arith)) here there (g.1 q z)
              (lt→le-f binary32 (get_or xs place nan) (get_or xs p nan) here there (yes_lt tt))
          above q (no z) l = let e : q ≡ p = omega arith in rw e (le-refl-f binary32 (get_or xs p nan) there)
      go false yes_lt no_lt = (omega (arith, g.0), λ q l. above q (dec_lt q p) l)
        where
          above : (q : ℕ) → Dec (q < p) → q < p + 1 → T (le (get_or xs q nan) (get_or xs place nan))
          above q (yes z) l = g.1 q z
          above q (no z) l = let e : q ≡ p = omega arith in rw e (not-lt-f binary32 (get_or xs place nan) (get_or xs p nan) here there (no_lt tt))

  chosen-read : (b : Bool) (p place : ℕ) → cond b (get_or xs p nan) (get_or xs place nan) ≡ get_or xs (cond b p place) nan
  chosen-read true p place = refl
  chosen-read false p place = refl

  -- one number more, with the greatest kept beside its index
  pub greatest-more : (count p place : ℕ) (greatest : Float) (q : ℕ) (next : Float) → Numbers xs count → p < count → GreatestAt xs p place → greatest ≡ get_or xs place nan
      → q ≡ cond (lt greatest (get_or xs p nan)) p place → next ≡ cond (lt greatest (get_or xs p nan)) (get_or xs p nan) greatest → GreatestAt xs (p + 1) q × (next ≡ get_or xs q nan)
  greatest-more count p place greatest q next n h g e f k =
      let b = lt (get_or xs place nan) (get_or xs p nan) in
      let f' : q ≡ cond b p place = rw e at f in
      let k' : next ≡ cond b (get_or xs p nan) (get_or xs place nan) = rw e at k in
      (rw f' (greatest-next count p place n h g), k' ∙ chosen-read b p place ∙ ap (λ (i : ℕ). get_or xs i nan) (sym f'))

  pub greatest-all : (count p place : ℕ) → p ≤ count → count ≤ p → GreatestAt xs p place → GreatestAt xs count place
  greatest-all count p place l m g = (omega (arith, g.0), λ q h. g.1 q (omega arith))
