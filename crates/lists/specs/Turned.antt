-- The invariant of a loop that replaces the entries of a list one after the other:
-- `Turned g lo xs₀ xs i` says that xs is xs₀ with g done at the entries from lo on and below i.
-- It holds of nothing done, it is kept by one more iteration, and at the end it says which map the
-- loop has made. Assumes nothing.
use Rattle.std.specs.Prelude.{◌≡◌, refl, ◌⊎◌, List, ℕ, ◌+◌, ◌≤◌, ◌<◌, length, get_or, set}
use Rattle.std.proofs.Common.{sym, ap, ◌∙◌, ⊎_elim, le_refl, arith, lt-ltb, le-ltb, length-set, ext_get_or, get_or-set_same, get_or-set_other}
use Rattle.std.proofs.Math.Decide.{dec_lt}
use Rattle.std.proofs.lemmas.Bool.{lt-leb}
use Rattle.lists.specs.Maps.{map_at, map_range, tabulate, between, between-low, between_in, between-high, length-map_range, get_or-map_range, map_range-empty, map_from-same, map_from-tab}

module _ {A : Type 0} where
  pub record Turned (g : ℕ → A → A) (lo : ℕ) (xs₀ xs : List A) (i : ℕ) : Type 0 where
    pub len : length xs ≡ length xs₀
    pub low : lo ≤ i
    pub is : xs ≡ map_range g lo i xs₀

  -- nothing is done yet
  pub turned_none : (g : ℕ → A → A) (lo : ℕ) (xs : List A) → Turned g lo xs xs lo
  turned_none g lo xs = record { len = refl; low = le_refl lo; is = sym (map_range-empty g lo xs) }

  -- the entry at i is still what it was
  pub turned-read : (d : A) {g : ℕ → A → A} {lo : ℕ} {xs₀ xs : List A} {i : ℕ} → Turned g lo xs₀ xs i → i < length xs₀ → get_or xs i d ≡ get_or xs₀ i d
  turned-read d {g} {lo} {xs₀} {xs} {i} t h =
      ap (λ l. get_or l i d) t.is ∙ get_or-map_range g lo i xs₀ i d h ∙ between-high g lo i i (get_or xs₀ i d) (le_refl i)

  -- one more iteration
  pub turned_more : (d : A) {g : ℕ → A → A} {lo : ℕ} {xs₀ xs : List A} {i : ℕ} {v : A} → Turned g lo xs₀ xs i → i < length xs₀ → v ≡ g i (get_or xs₀ i d)
      → Turned g lo xs₀ (set xs i v) (i + 1)
  turned_more d {g} {lo} {xs₀} {xs} {i} {v} t h e =
      let l : length xs ≡ length xs₀ = t.len in
      let b : lo ≤ i = t.low in
      record {
        len = length-set xs i v ∙ l;
        low = omega arith;
        is =
            ext_get_or d (set xs i v) (map_range g lo (i + 1) xs₀) (length-set xs i v ∙ l ∙ sym (length-map_range g lo (i + 1) xs₀))
            (λ k p. at k (simp length-set at p));
      }
    where
      at : (k : ℕ) → k < length xs → get_or (set xs i v) k d ≡ get_or (map_range g lo (i + 1) xs₀) k d
      at k p = go (dec_lt k i) (dec_lt i k)
        where
          b : (hi : ℕ) → get_or (map_range g lo hi xs₀) k d ≡ between lo hi g k (get_or xs₀ k d)
          b hi = get_or-map_range g lo hi xs₀ k d (omega (arith, t.len))

          other : (k ≡ i → ⊥) → between lo i g k (get_or xs₀ k d) ≡ between lo (i + 1) g k (get_or xs₀ k d)
              → get_or (set xs i v) k d ≡ get_or (map_range g lo (i + 1) xs₀) k d
          other ne eq = get_or-set_other xs i k v d ne ∙ ap (λ l. get_or l k d) t.is ∙ b i ∙ eq ∙ sym (b (i + 1))

          go : Dec (k < i) → Dec (i < k) → get_or (set xs i v) k d ≡ get_or (map_range g lo (i + 1) xs₀) k d
          go (yes p1) w = other (λ z. omega arith) (simp (lt-ltb k i p1, lt-ltb k (i + 1) (omega arith)))
          go (no p1) (yes p2) = other (λ z. omega arith) (simp (le-ltb k i (omega arith), le-ltb k (i + 1) (omega arith)))
          go (no p1) (no p2) =
              let z : k ≡ i = omega arith in
              rw z
              (get_or-set_same xs i v d (omega (arith, t.len)) ∙ e ∙ sym (between_in g lo (i + 1) i (get_or xs₀ i d) t.low (omega arith)) ∙ sym (get_or-map_range g lo (i + 1) xs₀ i d h))

  -- the entries from i on and below j, all at once
  pub turned_on : (d : A) {g : ℕ → A → A} {lo : ℕ} {xs₀ xs ys : List A} {i : ℕ} (j : ℕ) → Turned g lo xs₀ xs i → i ≤ j → ys ≡ map_range g i j xs → Turned g lo xs₀ ys j
  turned_on d {g} {lo} {xs₀} {xs} {ys} {i} j t h e =
      let b : lo ≤ i = t.low in
      record {
        len = ap length e ∙ length-map_range g i j xs ∙ t.len;
        low = omega arith;
        is =
            e ∙ ap (map_range g i j) t.is
            ∙ ext_get_or d (map_range g i j (map_range g lo i xs₀)) (map_range g lo j xs₀)
            (length-map_range g i j (map_range g lo i xs₀) ∙ length-map_range g lo i xs₀ ∙ sym (length-map_range g lo j xs₀))
            (λ k p. at k (simp (length-map_range g i j (map_range g lo i xs₀), length-map_range g lo i xs₀) at p));
      }
    where
      at : (k : ℕ) → k < length xs₀ → get_or (map_range g i j (map_range g lo i xs₀)) k d ≡ get_or (map_range g lo j xs₀) k d
      at k p =
          get_or-map_range g i j (map_range g lo i xs₀) k d (rw (length-map_range g lo i xs₀) p)
          ∙ ap (between i j g k) (get_or-map_range g lo i xs₀ k d p) ∙ go (dec_lt k i) (dec_lt k j) ∙ sym (get_or-map_range g lo j xs₀ k d p)
        where
          x : A
          x = get_or xs₀ k d

          go : Dec (k < i) → Dec (k < j) → between i j g k (between lo i g k x) ≡ between lo j g k x
          go (yes q) r = between-low g i j k (between lo i g k x) q ∙ simp (lt-ltb k i q, lt-ltb k j (omega arith))
          go (no q) (yes r) =
              ap (between i j g k) (between-high g lo i k x (omega arith)) ∙ between_in g i j k x (omega arith) r
              ∙ sym (between_in g lo j k x (let b = t.low in omega arith) r)
          go (no q) (no r) = ap (between i j g k) (between-high g lo i k x (omega arith)) ∙ between-high g i j k x (omega arith) ∙ sym (between-high g lo j k x (omega arith))

  -- every entry is done
  pub turned-all : {g : ℕ → A → A} {xs₀ xs : List A} {i : ℕ} → Turned g 0 xs₀ xs i → length xs₀ ≤ i → xs ≡ map_at g xs₀
  turned-all {g} {xs₀} {xs} {i} t h =
      t.is ∙ map_from-same (between 0 i g) g 0 xs₀ (λ k x p q. between_in g 0 i k x (omega arith) (omega arith))

  -- every entry is done, whatever it held before
  pub turned-fill : {f : ℕ → A} {xs₀ xs : List A} {i : ℕ} → Turned (λ k x. f k) 0 xs₀ xs i → length xs₀ ≤ i → xs ≡ tabulate (length xs₀) f
  turned-fill {f} {xs₀} {xs} {i} t h = turned-all t h ∙ map_from-tab f 0 xs₀

  -- the entries lo ≤ k < hi are done, where the loop begins at lo and stops at hi, or at once
  pub turned-to : (hi : ℕ) {g : ℕ → A → A} {lo : ℕ} {xs₀ xs : List A} {i : ℕ} → Turned g lo xs₀ xs i → (i ≤ hi) ⊎ (i ≡ lo) → hi ≤ i → xs ≡ map_range g lo hi xs₀
  turned-to hi {g} {lo} {xs₀} {xs} {i} t w h =
      t.is
      ∙ ⊎_elim (λ p. let z : i ≡ hi = omega arith in rw z refl) (λ p. map_from-same (between lo i g) (between lo hi g) 0 xs₀ (λ k x a b. same k x p (dec_lt k lo))) w
    where
      same : (k : ℕ) (x : A) → i ≡ lo → Dec (k < lo) → between lo i g k x ≡ between lo hi g k x
      same k x p (yes q) = simp (lt-leb lo k q)
      same k x p (no q) = between-high g lo i k x (omega arith) ∙ sym (between-high g lo hi k x (omega arith))
