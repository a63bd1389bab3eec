-- Lists made entry by entry: `tabulate n f` has f k at each place k below n; `map_at g xs` has g k x
-- where xs has x at k; `map_range g lo hi xs` has that from lo on and below hi, and xs elsewhere.
-- For each its length and its entries. Assumes nothing.
use Rattle.std.specs.Prelude.{◌≡◌, Bool, true, false, cond, ◌&&◌, leb, ltb, length, get_or}
use Rattle.std.proofs.Math.Path.{refl, ap}
use Rattle.std.proofs.Common.{replicate, drop, ◌++◌, length-append, sym, ◌∙◌, add-zero, zero-add, le_of_suc-le-suc, not-suc-le-zero, le_refl, arith, le-leb, lt-ltb, le-ltb, ext_get_or}
use mathlib.Core.List.{List, [], ◌∷◌}
use Prim.Native.Nat.{ℕ, zero, suc, ◌+◌, ◌-◌, ◌≤◌, ◌<◌}
use Rattle.std.proofs.Math.Nat.{suc-add, add-suc}
use Rattle.std.proofs.Math.Decide.{dec_lt}
use Rattle.std.proofs.lemmas.Bool.{lt-leb}
use Rattle.std.proofs.lemmas.List.{length-replicate, length-drop, get_or-replicate, get_or-drop, get_or_append_left, get_or-append_right}

module _ {A B : Type 0} where
  -- g at each entry and its place, counted from j
  unfoldable pub map_from : (ℕ → A → B) → ℕ → List A → List B
  map_from g j [] = []
  map_from g j (x ∷ xs) = g j x ∷ map_from g (suc j) xs

  abbrev pub map_at : (ℕ → A → B) → List A → List B
  map_at g xs = map_from g 0 xs

  pub length-map_from : (g : ℕ → A → B) (j : ℕ) (xs : List A) → length (map_from g j xs) ≡ length xs
  unfolding map_from
  length-map_from g j [] = refl
  length-map_from g j (x ∷ xs) = ap suc (length-map_from g (suc j) xs)

  get_or-map_from : (g : ℕ → A → B) (j : ℕ) (xs : List A) (k : ℕ) (d : A) (e : B) → k < length xs → get_or (map_from g j xs) k e ≡ g (j + k) (get_or xs k d)
  unfolding map_from
  get_or-map_from g j [] k d e h = absurd (not-suc-le-zero h)
  get_or-map_from g j (x ∷ xs) zero d e h = rw (add-zero j)
  get_or-map_from g j (x ∷ xs) (suc k) d e h = get_or-map_from g (suc j) xs k d e (le_of_suc-le-suc h) ∙ rw (suc-add j k, add-suc j k)

  -- d and e are the defaults for reads past the ends, and do not matter
  pub get_or-map_at : (g : ℕ → A → B) (xs : List A) (k : ℕ) (d : A) (e : B) → k < length xs → get_or (map_at g xs) k e ≡ g k (get_or xs k d)
  get_or-map_at g xs k d e h = get_or-map_from g 0 xs k d e h ∙ rw (zero-add k)

  -- two functions that agree at the entries give one list
  pub map_from-same : (g h : ℕ → A → B) (j : ℕ) (xs : List A) → ((k : ℕ) (x : A) → j ≤ k → k < j + length xs → g k x ≡ h k x) → map_from g j xs ≡ map_from h j xs
  unfolding map_from
  map_from-same g h j [] e = refl
  map_from-same g h j (x ∷ xs) e =
      rw (e j x (le_refl j) (omega (arith, add-suc j (length xs))))
      (ap (λ l. h j x ∷ l) (map_from-same g h (suc j) xs (λ k y p q. e k y (omega arith) (omega (arith, add-suc j (length xs), suc-add j (length xs))))))

module _ {A : Type 0} where
  -- ---- f at each place of a list of n entries, counted from j
  unfoldable pub tab_from : (ℕ → A) → ℕ → ℕ → List A
  tab_from f j zero = []
  tab_from f j (suc n) = f j ∷ tab_from f (suc j) n

  abbrev pub tabulate : ℕ → (ℕ → A) → List A
  tabulate n f = tab_from f 0 n

  pub length-tab : (f : ℕ → A) (j n : ℕ) → length (tab_from f j n) ≡ n
  unfolding tab_from
  length-tab f j zero = refl
  length-tab f j (suc n) = ap suc (length-tab f (suc j) n)

  get_or-tab : (f : ℕ → A) (j n k : ℕ) (d : A) → k < n → get_or (tab_from f j n) k d ≡ f (j + k)
  unfolding tab_from
  get_or-tab f j zero k d h = absurd (not-suc-le-zero h)
  get_or-tab f j (suc n) zero d h = rw (add-zero j)
  get_or-tab f j (suc n) (suc k) d h = get_or-tab f (suc j) n k d (le_of_suc-le-suc h) ∙ rw (suc-add j k, add-suc j k)

  pub get_d_tabulate : (f : ℕ → A) (n k : ℕ) (d : A) → k < n → get_or (tabulate n f) k d ≡ f k
  get_d_tabulate f n k d h = get_or-tab f 0 n k d h ∙ rw (zero-add k)

  -- a list is the tabulated list of its own entries
  pub tabulate-self : (d : A) (xs : List A) → xs ≡ tabulate (length xs) (λ k. get_or xs k d)
  tabulate-self d xs =
      ext_get_or d xs (tabulate (length xs) (λ k. get_or xs k d)) (sym (length-tab (λ k. get_or xs k d) 0 (length xs)))
      (λ k h. sym (get_d_tabulate (λ k. get_or xs k d) (length xs) k d h))

  pub map_from-tab : {B : Type 0} (f : ℕ → A) (j : ℕ) (xs : List B) → map_from (λ k x. f k) j xs ≡ tab_from f j (length xs)
  unfolding map_from tab_from
  map_from-tab f j [] = refl
  map_from-tab f j (x ∷ xs) = ap (λ l. f j ∷ l) (map_from-tab f (suc j) xs)

  -- ---- g at the places lo ≤ k < hi, and nothing elsewhere
  abbrev pub between : ℕ → ℕ → (ℕ → A → A) → ℕ → A → A
  between lo hi g k x = cond (leb lo k && ltb k hi) (g k x) x

  abbrev pub map_range : (ℕ → A → A) → ℕ → ℕ → List A → List A
  map_range g lo hi xs = map_at (between lo hi g) xs

  pub between_in : (g : ℕ → A → A) (lo hi k : ℕ) (x : A) → lo ≤ k → k < hi → between lo hi g k x ≡ g k x
  between_in g lo hi k x p q = simp (le-leb lo k p, lt-ltb k hi q)

  pub between-low : (g : ℕ → A → A) (lo hi k : ℕ) (x : A) → k < lo → between lo hi g k x ≡ x
  between-low g lo hi k x p = simp (lt-leb lo k p)

  pub between-high : (g : ℕ → A → A) (lo hi k : ℕ) (x : A) → hi ≤ k → between lo hi g k x ≡ x
  between-high g lo hi k x p = simp (le-ltb k hi p, and-false)
    where
      and-false : (b : Bool) → (b && false) ≡ false
      and-false true = refl
      and-false false = refl

  pub length-map_range : (g : ℕ → A → A) (lo hi : ℕ) (xs : List A) → length (map_range g lo hi xs) ≡ length xs
  length-map_range g lo hi xs = length-map_from (between lo hi g) 0 xs

  pub get_or-map_range : (g : ℕ → A → A) (lo hi : ℕ) (xs : List A) (k : ℕ) (d : A) → k < length xs
      → get_or (map_range g lo hi xs) k d ≡ between lo hi g k (get_or xs k d)
  get_or-map_range g lo hi xs k d h = get_or-map_at (between lo hi g) xs k d d h

  empty : (g : ℕ → A → A) (lo j : ℕ) (xs : List A) → map_from (between lo lo g) j xs ≡ xs
  unfolding map_from
  empty g lo j [] = refl
  empty g lo j (x ∷ xs) = rw (here (dec_lt j lo)) (ap (λ l. x ∷ l) (empty g lo (suc j) xs))
    where
      here : Dec (j < lo) → between lo lo g j x ≡ x
      here (yes h) = between-low g lo lo j x h
      here (no h) = between-high g lo lo j x (omega arith)

  -- an empty range changes nothing
  pub map_range-empty : (g : ℕ → A → A) (lo : ℕ) (xs : List A) → map_range g lo lo xs ≡ xs
  map_range-empty g lo xs = empty g lo 0 xs

  -- ---- a value at every place, and at the first n places of a list
  pub replicate-tabulate : (v : A) (n : ℕ) → replicate n v ≡ tabulate n (λ k. v)
  replicate-tabulate v n =
      ext_get_or v (replicate n v) (tabulate n (λ k. v)) (length-replicate n v ∙ sym (length-tab (λ k. v) 0 n))
      (λ k h. let l : k < n = omega (arith, length-replicate n v) in get_or-replicate n k v v l ∙ sym (get_d_tabulate (λ k. v) n k v l))

  pub replicate-front : (v : A) (n : ℕ) (xs : List A) → n ≤ length xs → replicate n v ++ drop n xs ≡ map_range (λ k x. v) 0 n xs
  replicate-front v n xs h =
      let front = length-replicate n v in
      ext_get_or v (replicate n v ++ drop n xs) (map_range (λ k x. v) 0 n xs)
      (omega (arith, front, length-append (replicate n v) (drop n xs), length-drop n xs, length-map_range (λ k x. v) 0 n xs))
      (λ k l. at k (omega (arith, front, length-append (replicate n v) (drop n xs), length-drop n xs)) (dec_lt k n))
    where
      at : (k : ℕ) → k < length xs → Dec (k < n) → get_or (replicate n v ++ drop n xs) k v ≡ get_or (map_range (λ k x. v) 0 n xs) k v
      at k l (yes m) =
          get_or_append_left (replicate n v) (drop n xs) v k (omega (arith, length-replicate n v)) ∙ get_or-replicate n k v v m
          ∙ sym (get_or-map_range (λ k x. v) 0 n xs k v l ∙ between_in (λ k x. v) 0 n k (get_or xs k v) (omega arith) m)
      at k l (no m) =
          get_or-append_right (replicate n v) (drop n xs) n k v (length-replicate n v) (omega arith)
          ∙ get_or-drop n xs (k - n) v ∙ ap (λ (i : ℕ). get_or xs i v) (omega arith)
          ∙ sym (get_or-map_range (λ k x. v) 0 n xs k v l ∙ between-high (λ k x. v) 0 n k (get_or xs k v) (omega arith))
