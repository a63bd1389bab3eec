-- Rules of tables by tests that antt computes: a test at every entry of a list and its place, and a
-- test at every number below n. One law each carries the test to an entry, and one joins two pieces
-- of a list, since antt ends a declaration at 50 million steps: a long table is tested in pieces, a
-- declaration each. Assumes nothing.
use Rattle.std.proofs.Common.{sym, ◌∙◌, subst, add-zero, zero-add, add-suc, suc-add, le_of_suc-le-suc, not-suc-le-zero}
use Rattle.std.specs.Prelude.{Bool, true, ◌&&◌, List, [], ◌∷◌, ℕ, zero, suc, ◌+◌, ◌<◌, T, length, get_or, take, drop}
use Rattle.std.specs.Float.Ieee.Fits.{and_i, and_l, and_r}

-- ---- the test f at each entry of the list and its place, counted from i
module _ {A : Type 0} where
  abbrev pub every : (ℕ → A → Bool) → ℕ → List A → Bool
  every f i [] = true
  every f i (x ∷ xs) = f i x && every f (suc i) xs

  from : (d : A) (f : ℕ → A → Bool) (xs : List A) (i : ℕ) → T (every f i xs) → (k : ℕ) → k < length xs → T (f (i + k) (get_or xs k d))
  from d f [] i t k h = absurd (not-suc-le-zero h)
  from d f (x ∷ xs) i t zero h = subst (λ (m : ℕ). T (f m x)) (sym (add-zero i)) (and_l (f i x) (every f (suc i) xs) t)
  from d f (x ∷ xs) i t (suc k) h =
      subst (λ (m : ℕ). T (f m (get_or xs k d))) (suc-add i k ∙ sym (add-suc i k))
      (from d f xs (suc i) (and_r (f i x) (every f (suc i) xs) t) k (le_of_suc-le-suc h))

  pub every-at : (d : A) (f : ℕ → A → Bool) (xs : List A) → T (every f 0 xs) → (k : ℕ) → k < length xs → T (f k (get_or xs k d))
  every-at d f xs t k h = subst (λ (m : ℕ). T (f m (get_or xs k d))) (zero-add k) (from d f xs 0 t k h)

  -- the first n entries, and the rest
  pub every-join : (f : ℕ → A → Bool) (n i : ℕ) (xs : List A) → T (every f i (take n xs)) → T (every f (i + n) (drop n xs)) → T (every f i xs)
  every-join f zero i xs t u = rw add-zero at u
  every-join f (suc n) i [] t u = tt
  every-join f (suc n) i (x ∷ xs) t u =
      and_i (f i x) (every f (suc i) xs) (and_l (f i x) (every f (suc i) (take n xs)) t)
      (every-join f n (suc i) xs (and_r (f i x) (every f (suc i) (take n xs)) t) (subst (λ (m : ℕ). T (every f m (drop n xs))) (add-suc i n ∙ sym (suc-add i n)) u))

-- ---- the test f at n numbers, from i on
abbrev pub all_from : ℕ → ℕ → (ℕ → Bool) → Bool
all_from i zero f = true
all_from i (suc n) f = f i && all_from (suc i) n f

abbrev pub all_below : ℕ → (ℕ → Bool) → Bool
all_below n f = all_from 0 n f

from_at : (i n : ℕ) (f : ℕ → Bool) → T (all_from i n f) → (k : ℕ) → k < n → T (f (i + k))
from_at i zero f t k h = absurd (not-suc-le-zero h)
from_at i (suc n) f t zero h = subst (λ (m : ℕ). T (f m)) (sym (add-zero i)) (and_l (f i) (all_from (suc i) n f) t)
from_at i (suc n) f t (suc k) h =
    subst (λ (m : ℕ). T (f m)) (suc-add i k ∙ sym (add-suc i k)) (from_at (suc i) n f (and_r (f i) (all_from (suc i) n f) t) k (le_of_suc-le-suc h))

pub below_at : (n : ℕ) (f : ℕ → Bool) → T (all_below n f) → (k : ℕ) → k < n → T (f k)
below_at n f t k h = subst (λ (m : ℕ). T (f m)) (zero-add k) (from_at 0 n f t k h)
