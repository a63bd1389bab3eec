-- Lists that are written over and over, entry by entry: a map of a map, a map of a part after a map
-- of the part before it, and a run over a list at each entry. Assumes nothing.
use Rattle.std.specs.Prelude.{◌≡◌, ◌⊎◌, length, get_or, set}
use Rattle.std.proofs.Math.Path.{refl, ap}
use Rattle.std.proofs.Common.{sym, subst, ◌∙◌, arith, lt-ltb, le-ltb}
use mathlib.Core.List.{List, [], ◌∷◌}
use Prim.Native.Nat.{ℕ, zero, suc, ◌+◌, ◌≤◌, ◌<◌, min}
use Rattle.std.proofs.Math.Decide.{dec_lt}
use Rattle.lists.specs.Maps.{map_from, map_at, map_range, tab_from, tabulate, between, between_in, between-low, between-high, length-map_range, map_from-same}
use Rattle.lists.specs.Turned.{Turned, turned-read, turned_more, turned-to}
use Rattle.lists.specs.Folds.{fold, fold_step, fold_end}

module _ {A : Type 0} where
  from-from : (f g : ℕ → A → A) (j : ℕ) (xs : List A) → map_from f j (map_from g j xs) ≡ map_from (λ k x. f k (g k x)) j xs
  unfolding map_from
  from-from f g j [] = refl
  from-from f g j (x ∷ xs) = ap (λ l. f j (g j x) ∷ l) (from-from f g (suc j) xs)

  pub map-map : (f g : ℕ → A → A) (xs : List A) → map_at f (map_at g xs) ≡ map_at (λ k x. f k (g k x)) xs
  map-map f g xs = from-from f g 0 xs

  from-none : (j : ℕ) (xs : List A) → map_from (λ k x. x) j xs ≡ xs
  unfolding map_from
  from-none j [] = refl
  from-none j (x ∷ xs) = ap (λ l. x ∷ l) (from-none (suc j) xs)

  pub map-none : (xs : List A) → map_at (λ k x. x) xs ≡ xs
  map-none xs = from-none 0 xs

  from-tab : (f : ℕ → A → A) (g : ℕ → A) (j n : ℕ) → map_from f j (tab_from g j n) ≡ tab_from (λ k. f k (g k)) j n
  unfolding map_from tab_from
  from-tab f g j zero = refl
  from-tab f g j (suc n) = ap (λ l. f j (g j) ∷ l) (from-tab f g (suc j) n)

  pub map-tab : (f : ℕ → A → A) (g : ℕ → A) (n : ℕ) → map_at f (tabulate n g) ≡ tabulate n (λ k. f k (g k))
  map-tab f g n = from-tab f g 0 n

  -- functions that agree at the list's places
  pub map_same : (f g : ℕ → A → A) (xs : List A) → ((k : ℕ) (x : A) → k < length xs → f k x ≡ g k x) → map_at f xs ≡ map_at g xs
  map_same f g xs e = map_from-same f g 0 xs (λ k x p q. e k x (omega arith))

  -- a part may end where the list ends
  range-cut : (g : ℕ → A → A) (lo hi : ℕ) (xs : List A) → map_range g lo (min hi (length xs)) xs ≡ map_range g lo hi xs
  range-cut g lo hi xs = map_same (between lo (min hi (length xs)) g) (between lo hi g) xs (λ k x p. at k x p (dec_lt k hi))
    where
      at : (k : ℕ) (x : A) → k < length xs → Dec (k < hi) → between lo (min hi (length xs)) g k x ≡ between lo hi g k x
      at k x p (yes q) = simp (lt-ltb k hi q, lt-ltb k (min hi (length xs)) (omega arith))
      at k x p (no q) = simp (le-ltb k hi (omega arith), le-ltb k (min hi (length xs)) (omega arith))

  -- the entries lo ≤ k < hi are done, as far as there are any
  pub turned-within : (hi stop : ℕ) {g : ℕ → A → A} {lo : ℕ} {xs₀ xs : List A} {i : ℕ} → Turned g lo xs₀ xs i → stop ≡ min hi (length xs₀) → (i ≤ stop) ⊎ (i ≡ lo) → stop ≤ i
      → xs ≡ map_range g lo hi xs₀
  turned-within hi stop {g} {lo} {xs₀} {xs} {i} t e w h = turned-to stop t w h ∙ ap (λ k. map_range g lo k xs₀) e ∙ range-cut g lo hi xs₀

  -- one more iteration, from what the entry holds now
  pub turned-next : (d : A) {g : ℕ → A → A} {lo : ℕ} {xs₀ xs : List A} {i : ℕ} {v : A} → Turned g lo xs₀ xs i → i < length xs₀ → v ≡ g i (get_or xs i d)
      → Turned g lo xs₀ (set xs i v) (i + 1)
  turned-next d {g} {lo} {xs₀} {xs} {i} t h e = turned_more d t h (e ∙ ap (g i) (turned-read d t h))

  -- the part after what is done
  pub turned-part : {g : ℕ → A → A} {lo : ℕ} {xs₀ xs : List A} {i : ℕ} (j : ℕ) → Turned g lo xs₀ xs i → i ≤ j → Turned g lo xs₀ (map_range g i j xs) j
  turned-part {g} {lo} {xs₀} {xs} {i} j t h =
      let b : lo ≤ i = t.low in
      record {
        len = length-map_range g i j xs ∙ t.len;
        low = omega arith;
        is = ap (map_range g i j) t.is ∙ map-map (between i j g) (between lo i g) xs₀ ∙ map_same (λ k x. between i j g k (between lo i g k x)) (between lo j g) xs₀ (λ k x p. at k x t.low (dec_lt k i) (dec_lt k j));
      }
    where
      at : (k : ℕ) (x : A) → lo ≤ i → Dec (k < i) → Dec (k < j) → between i j g k (between lo i g k x) ≡ between lo j g k x
      at k x b (yes p) w = between-low g i j k (between lo i g k x) p ∙ simp (lt-ltb k i p, lt-ltb k j (omega arith))
      at k x b (no p) (yes q) =
          between_in g i j k (between lo i g k x) (omega arith) q ∙ ap (g k) (between-high g lo i k x (omega arith)) ∙ sym (between_in g lo j k x (omega arith) q)
      at k x b (no p) (no q) =
          between-high g i j k (between lo i g k x) (omega arith) ∙ between-high g lo i k x (omega arith) ∙ sym (between-high g lo j k x (omega arith))

  -- the part of n entries after what is done, which ends at j
  pub turned-by : {g : ℕ → A → A} {lo : ℕ} {xs₀ xs ys : List A} {i : ℕ} (n j : ℕ) → Turned g lo xs₀ xs i → ys ≡ map_range g i (i + n) xs → i + n ≡ j → Turned g lo xs₀ ys j
  turned-by {g} {lo} {xs₀} {xs} {ys} {i} n j t e w =
      subst (λ (k : ℕ). Turned g lo xs₀ ys k) w (subst (λ (l : List A). Turned g lo xs₀ l (i + n)) (sym e) (turned-part (i + n) t (omega arith)))

-- ---- a run over the list l at each entry, which is where the run starts
module _ {A S : Type 0} (step : ℕ → S → A → S) where
  abbrev pub runs : List A → List S → List S
  runs l xs = map_at (λ k x. fold (step k) x l) xs

  -- the first of l at every entry, and then the rest
  pub runs-step : {l : List A} {x : A} {rest : List A} (xs : List S) → l ≡ x ∷ rest → runs l xs ≡ runs rest (map_at (λ k s. step k s x) xs)
  runs-step {l} {x} {rest} xs e =
      map_same (λ k s. fold (step k) s l) (λ k s. fold (step k) (step k s x) rest) xs (λ k s p. fold_step (step k) s e)
      ∙ sym (map-map (λ k s. fold (step k) s rest) (λ k s. step k s x) xs)

  pub runs-end : {l : List A} (xs : List S) → l ≡ [] → runs l xs ≡ xs
  runs-end {l} xs e = map_same (λ k s. fold (step k) s l) (λ k s. s) xs (λ k s p. fold_end (step k) s e) ∙ map-none xs
