-- A row of entries computed in stages, each a map of the same part: two stages are one map of the
-- part; and what is computed from a row that holds f at each index is computed from f.
-- Assumes nothing.
use Rattle.std.specs.Prelude.{◌≡◌, refl, Bool, true, false, cond, ◌&&◌, List, ℕ, ◌+◌, ◌-◌, ◌≤◌, ◌<◌, leb, ltb, length, get_or, set}
use Rattle.std.proofs.Common.{sym, ap, ◌∙◌, subst, arith, ext_get_or}
use Rattle.std.proofs.Math.Decide.{dec_lt}
use Rattle.lists.specs.Maps.{map_range, between, between_in, between-low, between-high, length-map_range, get_or-map_range}
use Rattle.lists.specs.Turned.{Turned, turned-read, turned_more}
use Rattle.lists.specs.Runs.{map-map, map_same}

module _ {A : Type 0} where
  -- functions that agree from lo on and below hi
  pub stage-same : (f g : ℕ → A → A) (lo hi : ℕ) (xs : List A) → ((k : ℕ) (x : A) → lo ≤ k → k < hi → f k x ≡ g k x) → map_range f lo hi xs ≡ map_range g lo hi xs
  stage-same f g lo hi xs e = map_same (between lo hi f) (between lo hi g) xs (λ k x p. at k x (dec_lt k lo) (dec_lt k hi))
    where
      at : (k : ℕ) (x : A) → Dec (k < lo) → Dec (k < hi) → between lo hi f k x ≡ between lo hi g k x
      at k x (yes p) w = between-low f lo hi k x p ∙ sym (between-low g lo hi k x p)
      at k x (no p) (yes q) = between_in f lo hi k x (omega arith) q ∙ e k x (omega arith) q ∙ sym (between_in g lo hi k x (omega arith) q)
      at k x (no p) (no q) = between-high f lo hi k x (omega arith) ∙ sym (between-high g lo hi k x (omega arith))

  -- functions that agree at the entries that the list has there
  pub range-held : (d : A) (f g : ℕ → A → A) (lo hi : ℕ) (xs : List A) → ((k : ℕ) → k < length xs → lo ≤ k → k < hi → f k (get_or xs k d) ≡ g k (get_or xs k d))
      → map_range f lo hi xs ≡ map_range g lo hi xs
  range-held d f g lo hi xs e =
      ext_get_or d (map_range f lo hi xs) (map_range g lo hi xs) (length-map_range f lo hi xs ∙ sym (length-map_range g lo hi xs))
      (λ k h. let l = subst (λ n. k < n) (length-map_range f lo hi xs) h in get_or-map_range f lo hi xs k d l ∙ at k l (dec_lt k lo) (dec_lt k hi) ∙ sym (get_or-map_range g lo hi xs k d l))
    where
      at : (k : ℕ) → k < length xs → Dec (k < lo) → Dec (k < hi) → between lo hi f k (get_or xs k d) ≡ between lo hi g k (get_or xs k d)
      at k l (yes p) w = between-low f lo hi k (get_or xs k d) p ∙ sym (between-low g lo hi k (get_or xs k d) p)
      at k l (no p) (yes q) = between_in f lo hi k (get_or xs k d) (omega arith) q ∙ e k l (omega arith) q ∙ sym (between_in g lo hi k (get_or xs k d) (omega arith) q)
      at k l (no p) (no q) = between-high f lo hi k (get_or xs k d) (omega arith) ∙ sym (between-high g lo hi k (get_or xs k d) (omega arith))

  -- a stage g and then a stage f
  pub stages : (f g : ℕ → A → A) (lo hi : ℕ) (xs : List A) → map_range f lo hi (map_range g lo hi xs) ≡ map_range (λ k x. f k (g k x)) lo hi xs
  stages f g lo hi xs =
      map-map (between lo hi f) (between lo hi g) xs ∙ map_same (λ k x. between lo hi f k (between lo hi g k x)) (between lo hi (λ k x. f k (g k x))) xs (λ k x p. at k x (leb lo k && ltb k hi))
    where
      at : (k : ℕ) (x : A) (b : Bool) → cond b (f k (cond b (g k x) x)) (cond b (g k x) x) ≡ cond b (f k (g k x)) x
      at k x true = refl
      at k x false = refl

  -- one more iteration of a loop, from what the entry holds now
  pub turned-held : (d : A) {g : ℕ → A → A} {lo : ℕ} {xs₀ xs : List A} {i : ℕ} {v : A} → Turned g lo xs₀ xs i → i < length xs₀ → v ≡ g i (get_or xs i d)
      → Turned g lo xs₀ (set xs i v) (i + 1)
  turned-held d {g} {lo} {xs₀} {xs} {i} t h e = turned_more d t h (e ∙ ap (g i) (turned-read d t h))

  -- a row that holds f at its first n places
  pub row_at : (d : A) (f : ℕ → A) (n : ℕ) (before : List A) {row : List A} → n ≤ length before → row ≡ map_range (λ k held. f k) 0 n before → (k : ℕ) → k < n → get_or row k d ≡ f k
  row_at d f n before {row} room e k h =
      ap (λ l. get_or l k d) e ∙ get_or-map_range (λ k held. f k) 0 n before k d (omega arith) ∙ between_in (λ k held. f k) 0 n k (get_or before k d) (omega arith) h

  -- the entries from `start` on, each with what such a row holds for it
  pub row-used : (d : A) (h : A → A → A) (f : ℕ → A) (start n : ℕ) (before xs : List A) {row ys : List A} → n ≤ length before
      → row ≡ map_range (λ k held. f (start + k)) 0 n before → ys ≡ map_range (λ i held. h (get_or row (i - start) d) held) start (start + n) xs
      → ys ≡ map_range (λ i held. h (f i) held) start (start + n) xs
  row-used d h f start n before xs {row} {ys} room e w =
      w ∙ stage-same (λ i held. h (get_or row (i - start) d) held) (λ i held. h (f i) held) start (start + n) xs at
    where
      at : (i : ℕ) (held : A) → start ≤ i → i < start + n → h (get_or row (i - start) d) held ≡ h (f i) held
      at i held p q =
          let z : start + (i - start) ≡ i = omega arith in
          ap (λ v. h v held) (row_at d (λ k. f (start + k)) n before room e (i - start) (omega arith) ∙ ap f z)
